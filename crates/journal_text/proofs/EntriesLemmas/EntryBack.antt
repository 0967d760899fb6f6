-- An entry that is written is read.
use Rattle.std.proofs.Common.{◌≡◌, ℕ, ◌<◌, ◌^◌, Bool, true, false, List, [], ◌∷◌, Some, refl, ap, ◌∙◌}
use Rattle.std.specs.Prelude.{codes, decimal, option_map}
use Rattle.std.proofs.lemmas.List.{append-nil}
use Rattle.journal_model.specs.declared.verdict.Verdict.{Verdict as VerdictType}
use Rattle.journal_model.specs.declared.answer.Answer.{Answer as AnswerType}
use Rattle.journal_model.specs.declared.verdict.Why.{Why}
use Rattle.journal_model.specs.declared.entry.What.{What}
use Rattle.journal_model.specs.declared.entry.What.TheVariants.{Claim, Start, NoStart, Lead, Ask, Put, Sent, Mute, Got, End, Verdict, Lost, Answer, Note, Again}
use Rattle.journal_model.specs.declared.entry.Entry.{Entry}
use Rattle.journal_text.specs.Entries.Answers.{answer_fields, answer_at}
use Rattle.journal_text.specs.Entries.Entries.{offer_word, offer_at, what_fields, what_at, what_rows, entry_at, entry_line, IsWhat, IsEntry}
use Rattle.journal_text.specs.Entries.Fields.{spaced, by_rows}
use Rattle.journal_text.specs.Entries.Verdicts.{verdict_fields, verdict_at}
use Rattle.journal_text.specs.Entries.Whys.{why_fields, why_at}
use Rattle.journal_text.proofs.EntriesLemmas.AnswerBack.{answer_back}
use Rattle.journal_text.proofs.EntriesLemmas.FirstFields.{number_back, small_back, smalls_back, numbers_back, small_rest, smalls_rest, numbers_rest}
use Rattle.journal_text.proofs.EntriesLemmas.ReadBack.{worded, why_back}
use Rattle.journal_text.proofs.EntriesLemmas.VerdictBack.{verdict_back}

alone : (line : List ℕ) → spaced (line ∷ []) ≡ line
alone line = append-nil line

offer_back : (offer : Bool) → offer_at (spaced (offer_word offer ∷ [])) ≡ offer
offer_back true = refl
offer_back false = refl

ask_back : (child job task : ℕ) (line : List ℕ) → child < 2 ^ 32 → job < 2 ^ 64 → task < 2 ^ 32
    → by_rows what_rows (codes "ask") (spaced (decimal child ∷ decimal job ∷ decimal task ∷ line ∷ [])) ≡ Some (Ask child job task line)
ask_back child job task line h k l =
    rw (
      numbers_back child job (decimal task ∷ line ∷ []) h k,
      numbers_rest child job (decimal task ∷ line ∷ []) h k,
      small_back task (line ∷ []) l,
      small_rest task (line ∷ []) l,
      alone line,
    ) refl

put_back : (child job : ℕ) (line : List ℕ) → child < 2 ^ 32 → job < 2 ^ 64
    → by_rows what_rows (codes "put") (spaced (decimal child ∷ decimal job ∷ line ∷ [])) ≡ Some (Put child job line)
put_back child job line h k = rw (numbers_back child job (line ∷ []) h k, numbers_rest child job (line ∷ []) h k, alone line) refl

lead_back : (child job : ℕ) (line : List ℕ) → child < 2 ^ 32 → job < 2 ^ 64
    → by_rows what_rows (codes "lead") (spaced (decimal child ∷ decimal job ∷ line ∷ [])) ≡ Some (Lead child job line)
lead_back child job line h k = rw (numbers_back child job (line ∷ []) h k, numbers_rest child job (line ∷ []) h k, alone line) refl

got_back : (child : ℕ) (line : List ℕ) → child < 2 ^ 32 → by_rows what_rows (codes "got") (spaced (decimal child ∷ line ∷ [])) ≡ Some (Got child line)
got_back child line h = rw (small_back child (line ∷ []) h, small_rest child (line ∷ []) h, alone line) refl

start_back : (child slot : ℕ) (offer : Bool) → child < 2 ^ 32 → slot < 2 ^ 32
    → by_rows what_rows (codes "start") (spaced (decimal child ∷ decimal slot ∷ offer_word offer ∷ [])) ≡ Some (Start child slot offer)
start_back child slot offer h k =
    rw (smalls_back child slot (offer_word offer ∷ []) h k, smalls_rest child slot (offer_word offer ∷ []) h k) (ap (λ (b : Bool). Some (Start child slot b)) (offer_back offer))

end_back : (child : ℕ) (why : Why) → child < 2 ^ 32 → why_at (spaced (why_fields why)) ≡ Some why
    → by_rows what_rows (codes "end") (spaced (decimal child ∷ why_fields why)) ≡ Some (End child why)
end_back child why h k = rw (small_back child (why_fields why) h, small_rest child (why_fields why) h, k) refl

settled_back : (child job : ℕ) (verdict : VerdictType) → child < 2 ^ 32 → job < 2 ^ 64 → verdict_at (spaced (verdict_fields verdict)) ≡ Some verdict
    → by_rows what_rows (codes "verdict") (spaced (decimal child ∷ decimal job ∷ verdict_fields verdict)) ≡ Some (Verdict child job verdict)
settled_back child job verdict h k l = rw (numbers_back child job (verdict_fields verdict) h k, numbers_rest child job (verdict_fields verdict) h k, l) refl

answered_back : (task : ℕ) (answer : AnswerType) → task < 2 ^ 32 → answer_at (spaced (answer_fields answer)) ≡ Some answer
    → by_rows what_rows (codes "answer") (spaced (decimal task ∷ answer_fields answer)) ≡ Some (Answer task answer)
answered_back task answer h k = rw (small_back task (answer_fields answer) h, small_rest task (answer_fields answer) h, k) refl

again_back : (task : ℕ) (answer : AnswerType) → task < 2 ^ 32 → answer_at (spaced (answer_fields answer)) ≡ Some answer
    → by_rows what_rows (codes "again") (spaced (decimal task ∷ answer_fields answer)) ≡ Some (Again task answer)
again_back task answer h k = rw (small_back task (answer_fields answer) h, small_rest task (answer_fields answer) h, k) refl

noted_back : (task chunk count : ℕ) → task < 2 ^ 32 → chunk < 2 ^ 64 → count < 2 ^ 64
    → by_rows what_rows (codes "note") (spaced (decimal task ∷ decimal chunk ∷ decimal count ∷ [])) ≡ Some (Note task chunk count)
noted_back task chunk count h k l = rw (numbers_back task chunk (decimal count ∷ []) h k, numbers_rest task chunk (decimal count ∷ []) h k, number_back count [] l) refl

pub what_back : (what : What) → IsWhat what → what_at (spaced (what_fields what)) ≡ Some what
what_back (Claim task child) h =
    worded (by_rows what_rows) (codes "claim") (decimal task ∷ decimal child ∷ []) refl ∙ ap (option_map (λ t. Claim t.0 t.1)) (smalls_back task child [] h.0 h.1)
what_back (Start child slot offer) h = worded (by_rows what_rows) (codes "start") (decimal child ∷ decimal slot ∷ offer_word offer ∷ []) refl ∙ start_back child slot offer h.0 h.1
what_back (NoStart slot) h = worded (by_rows what_rows) (codes "nostart") (decimal slot ∷ []) refl ∙ ap (option_map NoStart) (small_back slot [] h)
what_back (Ask child job task line) h =
    worded (by_rows what_rows) (codes "ask") (decimal child ∷ decimal job ∷ decimal task ∷ line ∷ []) refl ∙ ask_back child job task line h.0 h.1 h.2
what_back (Put child job line) h = worded (by_rows what_rows) (codes "put") (decimal child ∷ decimal job ∷ line ∷ []) refl ∙ put_back child job line h.0 h.1
what_back (Lead child job line) h = worded (by_rows what_rows) (codes "lead") (decimal child ∷ decimal job ∷ line ∷ []) refl ∙ lead_back child job line h.0 h.1
what_back (Sent child) h = worded (by_rows what_rows) (codes "sent") (decimal child ∷ []) refl ∙ ap (option_map Sent) (small_back child [] h)
what_back (Mute child) h = worded (by_rows what_rows) (codes "mute") (decimal child ∷ []) refl ∙ ap (option_map Mute) (small_back child [] h)
what_back (Got child line) h = worded (by_rows what_rows) (codes "got") (decimal child ∷ line ∷ []) refl ∙ got_back child line h.0
what_back (End child why) h = worded (by_rows what_rows) (codes "end") (decimal child ∷ why_fields why) refl ∙ end_back child why h.0 (why_back why h.1)
what_back (Verdict child job verdict) h =
    worded (by_rows what_rows) (codes "verdict") (decimal child ∷ decimal job ∷ verdict_fields verdict) refl ∙ settled_back child job verdict h.0 h.1 (verdict_back verdict h.2)
what_back (Lost child task) h =
    worded (by_rows what_rows) (codes "lost") (decimal child ∷ decimal task ∷ []) refl ∙ ap (option_map (λ t. Lost t.0 t.1)) (smalls_back child task [] h.0 h.1)
what_back (Answer task answer) h = worded (by_rows what_rows) (codes "answer") (decimal task ∷ answer_fields answer) refl ∙ answered_back task answer h.0 (answer_back answer h.1)
what_back (Note task chunk count) h =
    worded (by_rows what_rows) (codes "note") (decimal task ∷ decimal chunk ∷ decimal count ∷ []) refl ∙ noted_back task chunk count h.0 h.1 h.2
what_back (Again task answer) h = worded (by_rows what_rows) (codes "again") (decimal task ∷ answer_fields answer) refl ∙ again_back task answer h.0 (answer_back answer h.1)

pub entry_back : (entry : Entry) → IsEntry entry → entry_at (entry_line entry) ≡ Some entry
entry_back entry h = rw (small_back entry.by (what_fields entry.what) h.0, small_rest entry.by (what_fields entry.what) h.0, what_back entry.what h.1) refl
