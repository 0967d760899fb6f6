-- A line that is said, and an open job.
use Rattle.std.proofs.Common.{◌≡◌, ◌⊎◌, inl, inr, ℕ, List, [], ◌∷◌, refl, sym, ap, subst, ◌∙◌, Bool, true, false, not, ◌==◌, cond, Some, None, Option, drop}
use Rattle.std.specs.Prelude.{◌&&◌, ◌||◌, map, bytes_eq, slice_index}
use Rattle.annex_model.specs.Messages.{HostMessage, Getconfig, remote_line}
use Rattle.annex_model.specs.Tags.{untag, without_tag}
use Rattle.kit_async_model.specs.declared.setup.Setup.{Setup}
use Rattle.kit_async_model.specs.declared.job.Job.{Job}
use Rattle.kit_async_model.specs.declared.entry.Entry.TheVariants.{Say}
use Rattle.kit_async_model.specs.Jobs.{is_awaiting, is_tagged_as, is_job_line, job_of, without_job}
use Rattle.kit_async_model.specs.Hearings.{is_open}
use Rattle.kit_async_model.specs.Legality.{is_said}
use Rattle.kit_async_model.specs.Standings.{Standing, told_by, is_some_due, said_line, said_in, after}
use Rattle.kit_async_model.specs.Meanings.{Says, said_text, said_item, item_of, of_job}
use Rattle.kit_async_model.proofs.MeaningLemmas.Numbers.{number_of, still_kept, gone}
use Rattle.kit_async_model.proofs.MeaningLemmas.Phases.{Phase, Saying, Working, Asking, Awaiting, Calling, asked_left, said_left}
use Rattle.kit_async_model.proofs.MeaningLemmas.Stands.{IsOwed, IsQuiet, IsIn, At, is_due_of, is_in_over, is_in_rest}
use Rattle.kit_async_model.proofs.MeaningLemmas.Readying.{readying_awaits}
use Rattle.kit_async_model.proofs.MeaningLemmas.Steps.{Steps, Moves, Closes, of_other}
use Rattle.ann_key.proofs.Lists.{equal_bytes}
use Rattle.ann_key.proofs.Numbers.{same_number}
use Rattle.std.proofs.lemmas.Bool.{eqb-true as equal_is, and_parts as both}
use Rattle.kit_async_model.proofs.Across.{over_said}

-- ---- the line without its tag

tagged_text : (number : ℕ) (text line : List ℕ) (o : Option (ℕ × List ℕ)) → is_tagged_as number text o ≡ true → without_tag line o ≡ text
tagged_text number text line None h = absurd cc
tagged_text number text line (Some t) h = equal_bytes t.1 text (both (t.0 == number) (bytes_eq t.1 text) h).1

said_is : (number : ℕ) (text line : List ℕ) → is_job_line number text line ≡ true → said_text number line ≡ text
said_is number text line h = go (number == 0) h
  where
    go : (b : Bool) → cond b (bytes_eq line text) (is_tagged_as number text (untag line) && not (slice_index line 2 == 48)) ≡ true
        → cond b line (without_tag line (untag line)) ≡ text
    go true k = equal_bytes line text k
    go false k = tagged_text number text line (untag line) (both (is_tagged_as number text (untag line)) (not (slice_index line 2 == 48)) k).0

-- ---- a line of another, or the last words

said_none : (n : ℕ) (s : Standing) (m : ℕ) (line : List ℕ) → (s.over ≡ true) ⊎ ((m == n) ≡ false) → of_job n (said_item s m line) ≡ []
said_none n s m line (inl o) = rw o (go (is_open (job_of s.jobs m)))
  where
    go : (b : Bool) → of_job n (cond (b && false) (Some (m, Says (said_text m line))) None) ≡ []
    go true = refl
    go false = refl
said_none n s m line (inr h) = go (is_open (job_of s.jobs m) && cond s.over false true)
  where
    go : (b : Bool) → of_job n (cond b (Some (m, Says (said_text m line))) None) ≡ []
    go true = of_other m n (Says (said_text m line)) h
    go false = refl

other_said : (setup : Setup) (s : Standing) (n m : ℕ) (request : Option HostMessage) (p : Phase) → (at : At setup s n request p) → (m == n) ≡ false → (o : Option Job) → job_of s.jobs m ≡ o
    → At setup (said_in setup s o) n request p
other_said setup s n m request p at other None e = at
other_said setup s n m request p at other (Some j) e = go (is_some_due s.due || s.over || is_awaiting setup j) refl
  where
    less : At setup (record s { told = told_by s.prepared j s.told; jobs = without_job j.number s.jobs }) n request p
    less = record {
      job = at.job;
      found = still_kept s.jobs n j.number at.job at.found (ap (λ (k : ℕ). k == n) (number_of s.jobs m j e) ∙ other);
      is = at.is;
    }

    go : (b : Bool) → (is_some_due s.due || s.over || is_awaiting setup j) ≡ b → At setup (said_in setup s (Some j)) n request p
    go true h = rw h at
    go false h = rw h less

-- ---- a line of it

-- it is the first of the lines that are due
own_text : (n : ℕ) (text line : List ℕ) (due more rest : List (ℕ × List ℕ)) (d : ℕ × List ℕ) → due ≡ d ∷ rest → due ≡ (n, text) ∷ more → is_job_line n d.1 line ≡ true
    → said_text n line ≡ text
own_text n text line due more rest d e f l =
    let both_are : d ∷ rest ≡ (n, text) ∷ more = sym e ∙ f in
    let same : d ≡ (n, text) = cc in
    said_is n d.1 line l ∙ ap (λ (t : ℕ × List ℕ). t.1) same

said_own : (n : ℕ) (s : Standing) (job : Job) (line text : List ℕ) → job_of s.jobs n ≡ Some job → s.over ≡ false → said_text n line ≡ text → of_job n (said_item s n line) ≡ Says text ∷ []
said_own n s job line text found o t = rw (found, o, same_number n) (ap (λ (xs : List ℕ). Says xs ∷ []) t)

-- what is due of it isn't of another
due_never : {A : Type 0} (n : ℕ) (due rest : List (ℕ × List ℕ)) (d : ℕ × List ℕ) (over : Bool) → due ≡ d ∷ rest → (d.0 == n) ≡ true → over ≡ false → IsQuiet n due over → A
due_never n due rest d over e h o (inl f) = absurd cc
due_never n due rest d over e h o (inr f) =
    let it : is_due_of n due ≡ true = ap (is_due_of n) e ∙ rw h refl in
    absurd cc

owed_due : (n : ℕ) (lines : List (List ℕ)) (due : List (ℕ × List ℕ)) (over : Bool) → over ≡ false → IsOwed n lines due over → due ≡ map (λ line. (n, line)) lines
owed_due n lines due over o (inl f) = absurd cc
owed_due n lines due over o (inr f) = f

-- the last that is due settles it
last_said : (setup : Setup) (s : Standing) (n : ℕ) (request : Option HostMessage) (line text : List ℕ) (job : Job) → job_of s.jobs n ≡ Some job → s.over ≡ false → is_awaiting setup job ≡ false
    → s.due ≡ (n, text) ∷ [] → said_text n line ≡ text → Closes setup n request (Saying text []) (of_job n (said_item s n line)) (said_in setup (said_line s line) (Some job))
last_said setup s n request line text job found o told d t =
    let none : drop 1 s.due ≡ [] = ap (drop 1) d in
    let e : (is_some_due (drop 1 s.due) || s.over || is_awaiting setup job) ≡ false = rw (none, o, told) refl in
    record {
      item = Says text;
      are = said_own n s job line text found o t;
      gone = rw e (subst (λ (k : ℕ). job_of (without_job k s.jobs) n ≡ None) (sym (number_of s.jobs n job found)) (gone s.jobs n));
      left = refl;
    }

-- any other leaves it open
more_said : (setup : Setup) (s : Standing) (n : ℕ) (request : Option HostMessage) (line text next : List ℕ) (lines : List (List ℕ)) (job : Job) → job_of s.jobs n ≡ Some job → s.over ≡ false
    → IsIn setup n request job s.due s.over (Saying text (next ∷ lines)) → s.due ≡ map (λ l. (n, l)) (text ∷ next ∷ lines) → said_text n line ≡ text
    → Moves setup n request (Saying text (next ∷ lines)) (of_job n (said_item s n line)) (said_in setup (said_line s line) (Some job))
more_said setup s n request line text next lines job found o k d t =
    let more : drop 1 s.due ≡ map (λ (l : List ℕ). (n, l)) (next ∷ lines) = ap (drop 1) d in
    let e : (is_some_due (drop 1 s.due) || s.over || is_awaiting setup job) ≡ true = rw more refl in
    let stays : said_in setup (said_line s line) (Some job) ≡ said_line s line = rw e refl in
    record {
      to = Saying next lines;
      item = Says text;
      are = said_own n s job line text found o t;
      at = subst (λ (u : Standing). At setup u n request (Saying next lines)) (sym stays) (record { job = job; found = found; is = (k.0, inr more) });
      left = said_left setup request text next lines;
    }

asked_said : (setup : Setup) (s : Standing) (n : ℕ) (request : Option HostMessage) (line name : List ℕ) (values names : List (List ℕ)) (job : Job) → job_of s.jobs n ≡ Some job → s.over ≡ false
    → IsIn setup n request job s.due s.over (Asking values name names) → s.due ≡ (n, remote_line (Getconfig name)) ∷ [] → said_text n line ≡ remote_line (Getconfig name)
    → Moves setup n request (Asking values name names) (of_job n (said_item s n line)) (said_in setup (said_line s line) (Some job))
asked_said setup s n request line name values names job found o k d t =
    let awaits : is_awaiting setup job ≡ true = readying_awaits setup request job values name names 0 k.0 in
    let none : drop 1 s.due ≡ [] = ap (drop 1) d in
    let e : (is_some_due (drop 1 s.due) || s.over || is_awaiting setup job) ≡ true = rw (none, o, awaits) refl in
    let stays : said_in setup (said_line s line) (Some job) ≡ said_line s line = rw e refl in
    record {
      to = Awaiting values names;
      item = Says (remote_line (Getconfig name));
      are = said_own n s job line (remote_line (Getconfig name)) found o t;
      at = subst (λ (u : Standing). At setup u n request (Awaiting values names)) (sym stays) (record { job = job; found = found; is = ((name, k.0), inr (ap (is_due_of n) none)) });
      left = asked_left setup request values name names;
    }

own_said : (setup : Setup) (s : Standing) (n : ℕ) (request : Option HostMessage) (line : List ℕ) (p : Phase) (job : Job) (d : ℕ × List ℕ) (rest : List (ℕ × List ℕ)) → job_of s.jobs n ≡ Some job
    → s.over ≡ false → s.due ≡ d ∷ rest → (d.0 == n) ≡ true → is_job_line n d.1 line ≡ true → IsIn setup n request job s.due s.over p
    → Steps setup n request p (of_job n (said_item s n line)) (said_in setup (said_line s line) (Some job))
own_said setup s n request line (Saying text []) job d rest found o e h l k =
    let due : s.due ≡ (n, text) ∷ [] = owed_due n (text ∷ []) s.due s.over o k.1 in
    inr (inr (last_said setup s n request line text job found o k.0.told due (own_text n text line s.due [] rest d e due l)))
own_said setup s n request line (Saying text (next ∷ lines)) job d rest found o e h l k =
    let due : s.due ≡ map (λ (t : List ℕ). (n, t)) (text ∷ next ∷ lines) = owed_due n (text ∷ next ∷ lines) s.due s.over o k.1 in
    inr (inl (more_said setup s n request line text next lines job found o k due (own_text n text line s.due (map (λ (t : List ℕ). (n, t)) (next ∷ lines)) rest d e due l)))
own_said setup s n request line (Asking values name names) job d rest found o e h l k =
    let due : s.due ≡ (n, remote_line (Getconfig name)) ∷ [] = owed_due n (remote_line (Getconfig name) ∷ []) s.due s.over o k.1 in
    inr (inl (asked_said setup s n request line name values names job found o k due (own_text n (remote_line (Getconfig name)) line s.due [] rest d e due l)))
own_said setup s n request line (Working asked) job d rest found o e h l k = due_never n s.due rest d s.over e h o k.1
own_said setup s n request line (Awaiting values names) job d rest found o e h l k = due_never n s.due rest d s.over e h o k.1
own_said setup s n request line (Calling values remote) job d rest found o e h l k = due_never n s.due rest d s.over e h o k.2

-- ---- any line

pub say_step : (setup : Setup) (s : Standing) (n : ℕ) (request : Option HostMessage) (m : ℕ) (line : List ℕ) (p : Phase) (d : ℕ × List ℕ) (rest : List (ℕ × List ℕ)) → At setup s n request p
    → s.due ≡ d ∷ rest → is_said d (Say m line) ≡ true → Steps setup n request p (of_job n (item_of setup s (Say m line))) (after setup s (Say m line))
say_step setup s n request m line p d rest at e h = by_over s.over refl
  where
    number : (m == d.0) ≡ true
    number = (both (m == d.0) (is_job_line m d.1 line) h).0

    over : s.over ≡ true → Steps setup n request p (of_job n (said_item s m line)) (said_in setup (said_line s line) (job_of s.jobs m))
    over o =
        inl (record {
          none = said_none n s m line (inl o);
          at = subst (λ (u : Standing). At setup u n request p) (sym (over_said setup (said_line s line) (job_of s.jobs m) o))
              (record { job = at.job; found = at.found; is = is_in_over setup n request at.job s.due (drop 1 s.due) s.over s.over p o at.is });
        })

    other : (m == n) ≡ false → Steps setup n request p (of_job n (said_item s m line)) (said_in setup (said_line s line) (job_of s.jobs m))
    other f =
        let apart : (d.0 == n) ≡ false = ap (λ (k : ℕ). k == n) (sym (equal_is m d.0 number)) ∙ f in
        let less : rest ≡ drop 1 s.due = ap (drop 1) (sym e) in
        let now : IsIn setup n request at.job rest s.over p =
        is_in_rest setup n request at.job d rest s.over p apart (subst (λ (due : List (ℕ × List ℕ)). IsIn setup n request at.job due s.over p) e at.is) in
        let then : At setup (said_line s line) n request p =
        record { job = at.job; found = at.found; is = subst (λ (due : List (ℕ × List ℕ)). IsIn setup n request at.job due s.over p) less now } in
        inl (record { none = said_none n s m line (inr f); at = other_said setup (said_line s line) n m request p then f (job_of s.jobs m) refl })

    own : s.over ≡ false → (m == n) ≡ true → Steps setup n request p (of_job n (said_item s m line)) (said_in setup (said_line s line) (job_of s.jobs m))
    own o f =
        let is : m ≡ n = equal_is m n f in
        let due : (d.0 == n) ≡ true = ap (λ (k : ℕ). k == n) (sym (equal_is m d.0 number)) ∙ f in
        let said : is_job_line n d.1 line ≡ true = subst (λ (k : ℕ). is_job_line k d.1 line ≡ true) is (both (m == d.0) (is_job_line m d.1 line) h).1 in
        subst (λ (k : ℕ). Steps setup n request p (of_job n (said_item s k line)) (said_in setup (said_line s line) (job_of s.jobs k))) (sym is)
        (subst (λ (j : Option Job). Steps setup n request p (of_job n (said_item s n line)) (said_in setup (said_line s line) j)) (sym at.found)
        (own_said setup s n request line p at.job d rest at.found o e due said at.is))

    by_number : s.over ≡ false → (b : Bool) → (m == n) ≡ b → Steps setup n request p (of_job n (said_item s m line)) (said_in setup (said_line s line) (job_of s.jobs m))
    by_number o true f = own o f
    by_number o false f = other f

    by_over : (b : Bool) → s.over ≡ b → Steps setup n request p (of_job n (said_item s m line)) (said_in setup (said_line s line) (job_of s.jobs m))
    by_over true o = over o
    by_over false o = by_number o (m == n) refl
