-- One more entry is kept, and those before it say what they said.
use Rattle.std.proofs.Common.{◌≡◌, ℕ, ◌+◌, ◌-◌, ◌<◌, ◌≤◌, List, [], ◌∷◌, ◌++◌, length, map, append-nil, refl, sym, ap, ◌∙◌, arith}
use Rattle.std.specs.List.{AllByRecursion}
use Rattle.std.proofs.lemmas.List.{get_or_append_left, length_push, length-map}
use Rattle.std.proofs.lemmas.List.Sums.{sum_by_push}
use Rattle.ann_digest.specs.declared.digest.Digest.{Digest}
use Rattle.journal_scan.specs.Tables.Lines.{LineStoreValue, total}
use Rattle.journal_model.specs.declared.answer.Answer.{Answer}
use Rattle.journal_model.specs.declared.answer.Answer.TheVariants.{Hash}
use Rattle.journal_model.specs.declared.entry.What.{What}
use Rattle.journal_model.specs.declared.entry.What.TheVariants.{Lead, Ask, Put, Got, Answer as Answered, Again}
use Rattle.journal_model.specs.declared.entry.Entry.{Entry}
use Rattle.journal_model.specs.Journal.{line_bytes}
use Rattle.journal_scan.specs.declared.record.KeptAnswer.{KeptAnswer}
use Rattle.journal_scan.specs.declared.record.KeptAnswer.TheVariants.{Hash as KeptHash}
use Rattle.journal_scan.specs.declared.record.Kept.{Kept}
use Rattle.journal_scan.specs.declared.record.Kept.TheVariants.{Lead as KeptLead, Ask as KeptAsk, Put as KeptPut, Got as KeptGot, Answer as KeptAnswered, Again as KeptAgain}
use Rattle.journal_scan.specs.declared.record.Record.{Record}
use Rattle.journal_scan.specs.Kept.{line_kept, by_digest, answer_kept, what_kept, entry_kept, with_line, with_digest_of, with_digest, IsAnswerWithin, IsWithin, AreRecords}
use Rattle.ann_key.proofs.Lists.{slice_get-left}

-- ---- with more lines and digests a record says the same

answer_stays : (digests more : List Digest) (a : KeptAnswer) → IsAnswerWithin (length digests) a → answer_kept (digests ++ more) a ≡ answer_kept digests a
answer_stays digests more (KeptHash n) l = ap by_digest (slice_get-left digests more n l)
answer_stays digests more _ l = refl

line_stays : (lines more : List (List ℕ)) (n : ℕ) → n < length lines → line_kept (lines ++ more) n ≡ line_kept lines n
line_stays lines more n l = get_or_append_left lines more [] n l

what_stays : (lines more : List (List ℕ)) (digests others : List Digest) (w : Kept) → IsWithin (length lines) (length digests) w → what_kept (lines ++ more) (digests ++ others) w ≡ what_kept lines digests w
what_stays lines more digests others (KeptLead child job n) l = ap (λ (line : List ℕ). Lead child job line) (line_stays lines more n l)
what_stays lines more digests others (KeptAsk child job task n) l = ap (λ (line : List ℕ). Ask child job task line) (line_stays lines more n l)
what_stays lines more digests others (KeptPut child job n) l = ap (λ (line : List ℕ). Put child job line) (line_stays lines more n l)
what_stays lines more digests others (KeptGot child n) l = ap (λ (line : List ℕ). Got child line) (line_stays lines more n l)
what_stays lines more digests others (KeptAnswered task a) l = ap (λ (answer : Answer). Answered task answer) (answer_stays digests others a l)
what_stays lines more digests others (KeptAgain task a) l = ap (λ (answer : Answer). Again task answer) (answer_stays digests others a l)
what_stays lines more digests others _ l = refl

entries_stay : (lines more : List (List ℕ)) (digests others : List Digest) (records : List Record) → AllByRecursion (λ r. IsWithin (length lines) (length digests) r.what) records → map (entry_kept (lines ++ more) (digests ++ others)) records ≡ map (entry_kept lines digests) records
entries_stay lines more digests others [] h = refl
entries_stay lines more digests others (r ∷ records) h = λ i.
    record { by = r.by; what = what_stays lines more digests others r.what h.0 i } ∷ entries_stay lines more digests others records h.1 i

-- ---- what one more entry adds

more_lines : (lines : List (List ℕ)) (w : What) → (more : List (List ℕ)) × (with_line lines w ≡ lines ++ more)
more_lines lines (Lead child job line) = (line ∷ [], refl)
more_lines lines (Ask child job task line) = (line ∷ [], refl)
more_lines lines (Put child job line) = (line ∷ [], refl)
more_lines lines (Got child line) = (line ∷ [], refl)
more_lines lines _ = ([], sym (append-nil lines))

more_digests_of : (digests : List Digest) (a : Answer) → (more : List Digest) × (with_digest_of digests a ≡ digests ++ more)
more_digests_of digests (Hash digest) = (digest ∷ [], refl)
more_digests_of digests _ = ([], sym (append-nil digests))

more_digests : (digests : List Digest) (w : What) → (more : List Digest) × (with_digest digests w ≡ digests ++ more)
more_digests digests (Answered task answer) = more_digests_of digests answer
more_digests digests (Again task answer) = more_digests_of digests answer
more_digests digests _ = ([], sym (append-nil digests))

pub entries_same : (lines : List (List ℕ)) (digests : List Digest) (w : What) (records : List Record) → AllByRecursion (λ r. IsWithin (length lines) (length digests) r.what) records → map (entry_kept (with_line lines w) (with_digest digests w)) records ≡ map (entry_kept lines digests) records
entries_same lines digests w records h =
    let more = more_lines lines w in
    let others = more_digests digests w in
    (λ i. map (entry_kept (more.1 i) (others.1 i)) records) ∙ entries_stay lines more.0 digests others.0 records h

-- at most one more
same_more : (n : ℕ) → (n ≤ n) × (n ≤ n + 1)
same_more n = (omega arith, omega arith)

push_more : {X : Type 0} (xs : List X) (x : X) → (length xs ≤ length (xs ++ x ∷ [])) × (length (xs ++ x ∷ []) ≤ length xs + 1)
push_more xs x = let long = length_push xs x in (omega (arith, long), omega (arith, long))

pub one_line : (lines : List (List ℕ)) (w : What) → (length lines ≤ length (with_line lines w)) × (length (with_line lines w) ≤ length lines + 1)
one_line lines (Lead child job line) = push_more lines line
one_line lines (Ask child job task line) = push_more lines line
one_line lines (Put child job line) = push_more lines line
one_line lines (Got child line) = push_more lines line
one_line lines _ = same_more (length lines)

one_digest_of : (digests : List Digest) (a : Answer) → (length digests ≤ length (with_digest_of digests a)) × (length (with_digest_of digests a) ≤ length digests + 1)
one_digest_of digests (Hash digest) = push_more digests digest
one_digest_of digests _ = same_more (length digests)

pub one_digest : (digests : List Digest) (w : What) → (length digests ≤ length (with_digest digests w)) × (length (with_digest digests w) ≤ length digests + 1)
one_digest digests (Answered task answer) = one_digest_of digests answer
one_digest digests (Again task answer) = one_digest_of digests answer
one_digest digests _ = same_more (length digests)

pub bytes_with : (lines : List (List ℕ)) (w : What) → total (with_line lines w) ≡ total lines + line_bytes w
bytes_with lines (Lead child job line) = sum_by_push (λ (l : List ℕ). length l) lines line
bytes_with lines (Ask child job task line) = sum_by_push (λ (l : List ℕ). length l) lines line
bytes_with lines (Put child job line) = sum_by_push (λ (l : List ℕ). length l) lines line
bytes_with lines (Got child line) = sum_by_push (λ (l : List ℕ). length l) lines line
bytes_with lines _ = omega arith

-- ---- the numbers stay within

answer_within : (n m : ℕ) (a : KeptAnswer) → n ≤ m → IsAnswerWithin n a → IsAnswerWithin m a
answer_within n m (KeptHash k) le h = let low : k < n = h in omega (arith, low, le)
answer_within n m _ le h = h

what_within : (n more n' more' : ℕ) (w : Kept) → n ≤ n' → more ≤ more' → IsWithin n more w → IsWithin n' more' w
what_within n more n' more' (KeptLead child job k) le le' h = let low : k < n = h in omega (arith, low, le)
what_within n more n' more' (KeptAsk child job task k) le le' h = let low : k < n = h in omega (arith, low, le)
what_within n more n' more' (KeptPut child job k) le le' h = let low : k < n = h in omega (arith, low, le)
what_within n more n' more' (KeptGot child k) le le' h = let low : k < n = h in omega (arith, low, le)
what_within n more n' more' (KeptAnswered task a) le le' h = answer_within more more' a le' h
what_within n more n' more' (KeptAgain task a) le le' h = answer_within more more' a le' h
what_within n more n' more' _ le le' h = h

all_within : (n more n' more' : ℕ) (records : List Record) (r : Record) → n ≤ n' → more ≤ more' → AllByRecursion (λ x. IsWithin n more x.what) records → IsWithin n' more' r.what → AllByRecursion (λ x. IsWithin n' more' x.what) (records ++ r ∷ [])
all_within n more n' more' [] r le le' h last = (last, tt)
all_within n more n' more' (x ∷ records) r le le' h last =
    (what_within n more n' more' x.what le le' h.0, all_within n more n' more' records r le le' h.1 last)

-- the lines and the digests of the records with one more: what is there, and the room of both
pub record IsOneMore (lines lines' : LineStoreValue) (digests digests' : List Digest) (w : What) : Type 0 where
  pub line_is : lines'.lines ≡ with_line lines.lines w
  pub digest_is : digests' ≡ with_digest digests w
  pub room_is : lines'.room ≡ lines.room
  pub space_is : lines'.space ≡ lines.space

pub records_pushed : (records : List Record) (lines lines' : LineStoreValue) (digests digests' : List Digest) (room m n m' n' : ℕ) (w : What) (r : Record)
    → AreRecords records lines digests room m n → IsOneMore lines lines' digests digests' w → length records < room → total lines.lines + line_bytes w ≤ lines.space → m ≤ m' → n ≤ n'
    → IsWithin (length lines'.lines) (length digests') r.what → AreRecords (records ++ r ∷ []) lines' digests' room m' n'
records_pushed records lines lines' digests digests' room m n m' n' w r h one few fits le le' last =
    let many : length lines'.lines ≡ length (with_line lines.lines w) = ap length one.line_is in
    let others : length digests' ≡ length (with_digest digests w) = ap length one.digest_is in
    let line = one_line lines.lines w in
    let digest = one_digest digests w in
    let long = length_push records r in
    let heavy : total lines'.lines ≡ total lines.lines + line_bytes w = ap total one.line_is ∙ bytes_with lines.lines w in
    let space = one.space_is in
    let room_is = one.room_is in
    let roomy = h.for_lines in
    let for_digests = h.for_digests in
    let for_records = h.for_records in
    record {
      within = all_within (length lines.lines) (length digests) (length lines'.lines) (length digests') records r (omega (arith, many, line.0)) (omega (arith, others, digest.0)) h.within last;
      bytes = omega (arith, heavy, fits, space);
      for_records = omega (arith, for_records, le);
      for_lines = omega (arith, many, line.1, long, few, room_is, roomy);
      for_digests = omega (arith, others, digest.1, long, few, le', for_digests);
    }

-- ---- what contracts see

pub few_kept : (records : List Record) (f : Record → Entry) (entries : List Entry) (room all : ℕ) → map f records ≡ entries → all ≡ room → length entries < room → length records < all
few_kept records f entries room all is same few = let long = length-map records f in let many = ap length is in omega (arith, long, many, same, few)

pub fits_kept : (filled space more spare : ℕ) → filled ≤ space → space - filled ≡ spare → more ≤ spare → filled + more ≤ space
fits_kept filled space more spare low is fits = omega (arith, low, is, fits)
