-- The text of what is printed, piece by piece.
use Rattle.std.proofs.Common.{◌≡◌, ◌∙◌, ℕ, suc, ◌+◌, ◌<◌, List, [], ◌∷◌, ◌++◌, refl, sym, ap, Bool, true, false, cond, Option, Some, append_assoc, append-nil, length, drop, get_or, arith, drop-cons}
use Rattle.std.specs.Prelude.{codes, is_some, map}
use Rattle.std.specs.List.{cons_option}
use Rattle.journal_model.specs.declared.verdict.Verdict.{Verdict}
use Rattle.journal_model.specs.declared.verdict.Verdict.TheVariants.{Ended, Unsent}
use Rattle.annex_model.specs.Lines.{text}
use Rattle.annex_model.specs.Messages.{RemoteMessage, HostMessage}
use Rattle.annex_model.specs.Talks.{said}
use Rattle.journal_model.specs.declared.entry.Entry.{Entry}
use Rattle.journal_model.specs.Journal.{verdict_of}
use Rattle.journal_model.specs.Parts.{part, item_at}
use Rattle.journal_model.specs.Projection.{final_in}
use Rattle.journal_model.specs.Output.{text_at}
use Rattle.task_model.specs.TaskRuns.{refusal_of}
use Rattle.wire_msg.specs.declared.host.HostMsg.{HostMsg}
use Rattle.wire_msg.specs.Shown.{host_shown}
use Rattle.info_and_init.specs.Info.Infos.{lines_from, lines_of, questions_from, unready_lines}
use Rattle.info_and_init.proofs.InfoLemmas.Places.{said_from, said_next}
use Rattle.annex_model.proofs.Across.{text-append}

-- lines that are printed before others
pub joined : (xs ys : List (List ℕ)) (a b : List ℕ) → b ≡ a ++ text xs → a ++ text (xs ++ ys) ≡ b ++ text ys
joined xs ys a b e =
    ap (λ (t : List ℕ). a ++ t) (text-append xs ys) ∙ sym (append_assoc a (text xs) (text ys)) ∙ ap (λ (t : List ℕ). t ++ text ys) (sym e)

-- ---- what a job tells, by its verdict

pub answer_told : (journal : List Entry) (c : ℕ) (q : HostMessage) (j : ℕ) (v : Verdict) (a b : List ℕ)
    → verdict_of journal c j ≡ Some v → is_some (final_in v) ≡ true → b ≡ a ++ text (lines_of q (said (part journal c j)))
    → (qs : List HostMessage) → a ++ text (questions_from journal c (q ∷ qs) j) ≡ b ++ text (questions_from journal c qs (j + 1))
answer_told journal c q j (Ended why) a b e h f qs = absurd cc
answer_told journal c q j Unsent a b e h f qs = absurd cc
answer_told journal c q j v a b e h f qs = rw e (joined (lines_of q (said (part journal c j))) (questions_from journal c qs (j + 1)) a b f)

-- ---- a child that isn't ready

pub refused : (journal : List Entry) (c at : ℕ) → refusal_of journal c ≡ Some at
    → unready_lines journal c ≡ (codes "notprepared " ++ text_at journal at) ∷ []
refused journal c at e = rw e refl

-- ---- place by place

pub place_told : (journal : List Entry) (c j at : ℕ) (q : HostMessage) (a b d : List ℕ) (f g : Option (List ℕ)) → at < length journal
    → a ≡ b ++ text (lines_from q f (said_from journal c j at))
    → ((rest : List (Option RemoteMessage)) → b ++ text (lines_from q f (said (cons_option (item_at journal c j at) []) ++ rest)) ≡ d ++ text (lines_from q g rest))
    → a ≡ d ++ text (lines_from q g (said_from journal c j (at + 1)))
place_told journal c j at q a b d f g h before step =
    before
    ∙ ap (λ (ms : List (Option RemoteMessage)). b ++ text (lines_from q f ms)) (said_next journal c j at h)
    ∙ step (said_from journal c j (at + 1))

-- ---- job by job

abbrev jobs_text : List Entry → ℕ → List HostMsg → ℕ → List ℕ
jobs_text journal c qs n = text (questions_from journal c (map host_shown (drop n qs)) (n + 2))

question_here : (qs : List HostMsg) (n : ℕ) (x : HostMsg) → n < length qs → x ≡ get_or qs n x → drop n qs ≡ x ∷ drop (n + 1) qs
question_here qs n x h here =
    let next : suc n ≡ n + 1 = omega arith in
    drop-cons qs n x h ∙ ap (λ (k : ℕ). get_or qs n x ∷ drop k qs) next ∙ ap (λ (y : HostMsg). y ∷ drop (n + 1) qs) (sym here)

-- the text is whole where a job is the last that is told
pub last_told : (journal : List Entry) (c : ℕ) (qs : List HostMsg) (n : ℕ) (x : HostMsg) (a b d : List ℕ) (more : Bool)
    → n < length qs → x ≡ get_or qs n x → more ≡ false → a ≡ b ++ jobs_text journal c qs n
    → ((rest : List HostMessage) → b ++ text (questions_from journal c (host_shown x ∷ rest) (n + 2)) ≡ d ++ cond more (text (questions_from journal c rest (n + 2 + 1))) [])
    → d ≡ a
last_told journal c qs n x a b d true h here over before step = absurd cc
last_told journal c qs n x a b d false h here over before step =
    sym (append-nil d)
    ∙ sym (step (map host_shown (drop (n + 1) qs)))
    ∙ sym (ap (λ (k : List HostMsg). b ++ text (questions_from journal c (map host_shown k) (n + 2))) (question_here qs n x h here))
    ∙ sym before
