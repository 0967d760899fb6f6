-- What is still to come of a job.
use Rattle.std.proofs.Common.{◌≡◌, ◌⊎◌, inl, inr, ℕ, suc, ◌+◌, ◌-◌, ◌≤◌, List, [], ◌∷◌, ◌++◌, refl, sym, ap, subst, ◌∙◌, append-nil, Bool, true, false, Some, length, append_assoc, arith, Option}
use Rattle.std.specs.Prelude.{IsTrue, map}
use Rattle.std.specs.List.{list_all}
use Rattle.annex_model.specs.Messages.{HostMessage, RemoteMessage, Value, Getconfig, remote_line}
use Rattle.kit_serve.specs.declared.kit.call.Asked.{Asked}
use Rattle.kit_serve.specs.declared.kit.call.Asked.TheVariants.{Prepare as AskPrepare}
use Rattle.kit_serve.specs.declared.kit.call.Said.{Said}
use Rattle.kit_serve.specs.declared.kit.call.Said.TheVariants.{No}
use Rattle.kit_serve.specs.Kit.Kits.{is_yes, final_lines}
use Rattle.kit_async_model.specs.declared.setup.Setup.{Setup}
use Rattle.kit_async_model.proofs.Across.{Finals}
use Rattle.kit_async_model.specs.Meanings.{Item, Told, Says, Calls, asked_values, calls_from, IsReadied, IsWorked}

-- the lines that are its last; a call of any remote for this, and the lines for it; with the values so far, a setting that is asked for, and
-- those after it; the value of a setting, and the settings after it; calls from this remote on
pub data Phase : Type 0 where
  Saying : (line : List ℕ) (lines : List (List ℕ)) → Phase
  Working : (asked : Asked) → Phase
  Asking : (values : List (List ℕ)) (name : List ℕ) (names : List (List ℕ)) → Phase
  Awaiting : (values names : List (List ℕ)) → Phase
  Calling : (values : List (List ℕ)) (remote : ℕ) → Phase

-- the settings that are still to be asked for
abbrev pub asking : List (List ℕ) → List (List ℕ) → Phase
asking values [] = Calling values 0
asking values (name ∷ names) = Asking values name names

-- ---- what may come

-- one remote's call, and the lines for it
pub record WorkLeft (setup : Setup) (asked : Asked) (request : Option HostMessage) (items : List Item) : Type 0 where
  pub remote : ℕ
  pub said : Said
  pub among : remote ≤ setup.remotes - 1
  pub are : items ≡ Calls remote (Some asked) said ∷ map (λ line. Says (remote_line line)) (final_lines request said)

-- the calls of the remotes from this one on, and the lines for the last of them
pub record CallsLeft (setup : Setup) (request : Option HostMessage) (values : List (List ℕ)) (remote : ℕ) (items : List Item) : Type 0 where
  pub firsts : List Said
  pub last : Said
  pub few : remote + length firsts ≤ setup.remotes - 1
  pub agree : IsTrue (list_all is_yes firsts)
  pub ends : (is_yes last ≡ false) ⊎ (remote + length firsts + 1 ≡ setup.remotes)
  pub are : items ≡ calls_from remote (AskPrepare values) (firsts ++ last ∷ []) ++ map (λ line. Says (remote_line line)) (final_lines request last)

abbrev pub AskingLeft : Setup → Option HostMessage → List (List ℕ) → List (List ℕ) → List Item → Type 0
AskingLeft setup request values [] items = CallsLeft setup request values 0 items
AskingLeft setup request values (name ∷ names) items =
    (value : List ℕ) × (more : List Item) × (items ≡ Says (remote_line (Getconfig name)) ∷ Told (Some (Value value)) ∷ more) × AskingLeft setup request (values ++ value ∷ []) names more

abbrev pub IsLeft : Setup → Option HostMessage → Phase → List Item → Type 0
IsLeft setup request (Saying line lines) items = items ≡ map (λ l. Says l) (line ∷ lines)
IsLeft setup request (Working asked) items = WorkLeft setup asked request items
IsLeft setup request (Asking values name names) items = AskingLeft setup request values (name ∷ names) items
IsLeft setup request (Awaiting values names) items =
    (value : List ℕ) × (more : List Item) × (items ≡ Told (Some (Value value)) ∷ more) × AskingLeft setup request (values ++ value ∷ []) names more
IsLeft setup request (Calling values remote) items = CallsLeft setup request values remote items

-- ---- of a job that is open, or that isn't

abbrev pub Ends : Bool → Setup → Option HostMessage → Phase → List Item → Type 0
Ends true setup request p items = (more : List Item) × IsLeft setup request p (items ++ more)
Ends false setup request p items = IsLeft setup request p items

pub ends_by : (b : Bool) (setup : Setup) (request : Option HostMessage) (p q : Phase) (item : Item) → ((items : List Item) → IsLeft setup request q items → IsLeft setup request p (item ∷ items))
    → (items : List Item) → Ends b setup request q items → Ends b setup request p (item ∷ items)
ends_by true setup request p q item f items k = (k.0, f (items ++ k.0) k.1)
ends_by false setup request p q item f items k = f items k

-- ---- the lines for a word

lines_said : (ms : List RemoteMessage) → map (λ l. Says l) (map remote_line ms) ≡ map (λ line. Says (remote_line line)) ms
lines_said [] = refl
lines_said (m ∷ ms) = ap (λ (xs : List Item). Says (remote_line m) ∷ xs) (lines_said ms)

finals_said : (request : Option HostMessage) (said : Said) (f : Finals request said) (items : List Item) → items ≡ map (λ l. Says l) (f.line ∷ f.lines)
    → items ≡ map (λ line. Says (remote_line line)) (final_lines request said)
finals_said request said f items k = k ∙ ap (λ (ls : List (List ℕ)). map (λ (l : List ℕ). Says l) ls) (sym f.are) ∙ lines_said (final_lines request said)

-- ---- one item more

pub asking_left : (setup : Setup) (request : Option HostMessage) (values names : List (List ℕ)) (items : List Item) → IsLeft setup request (asking values names) items
    → AskingLeft setup request values names items
asking_left setup request values [] items k = k
asking_left setup request values (name ∷ names) items k = k

pub said_left : (setup : Setup) (request : Option HostMessage) (line next : List ℕ) (lines : List (List ℕ)) (items : List Item) → IsLeft setup request (Saying next lines) items
    → IsLeft setup request (Saying line (next ∷ lines)) (Says line ∷ items)
said_left setup request line next lines items k = ap (λ (xs : List Item). Says line ∷ xs) k

pub asked_left : (setup : Setup) (request : Option HostMessage) (values : List (List ℕ)) (name : List ℕ) (names : List (List ℕ)) (items : List Item)
    → IsLeft setup request (Awaiting values names) items → IsLeft setup request (Asking values name names) (Says (remote_line (Getconfig name)) ∷ items)
asked_left setup request values name names items k = (k.0, k.1, ap (λ (xs : List Item). Says (remote_line (Getconfig name)) ∷ xs) k.2, k.3)

pub told_left : (setup : Setup) (request : Option HostMessage) (values : List (List ℕ)) (value : List ℕ) (names : List (List ℕ)) (items : List Item)
    → IsLeft setup request (asking (values ++ value ∷ []) names) items → IsLeft setup request (Awaiting values names) (Told (Some (Value value)) ∷ items)
told_left setup request values value names items k = (value, items, refl, asking_left setup request (values ++ value ∷ []) names items k)

pub worked_left : (setup : Setup) (asked : Asked) (request : Option HostMessage) (remote : ℕ) (said : Said) (f : Finals request said) → remote ≤ setup.remotes - 1 → (items : List Item)
    → IsLeft setup request (Saying f.line f.lines) items → IsLeft setup request (Working asked) (Calls remote (Some asked) said ∷ items)
worked_left setup asked request remote said f h items k =
    record { remote = remote; said = said; among = h; are = ap (λ (xs : List Item). Calls remote (Some asked) said ∷ xs) (finals_said request said f items k) }

pub called_left : (setup : Setup) (request : Option HostMessage) (values : List (List ℕ)) (remote : ℕ) (said : Said) (f : Finals request said) → remote ≤ setup.remotes - 1
    → (is_yes said ≡ false) ⊎ (remote + 1 ≡ setup.remotes) → (items : List Item) → IsLeft setup request (Saying f.line f.lines) items
    → IsLeft setup request (Calling values remote) (Calls remote (Some (AskPrepare values)) said ∷ items)
called_left setup request values remote said f h e items k = record {
  firsts = [];
  last = said;
  few = let none : remote + 0 ≡ remote = omega arith in omega (arith, none, h);
  agree = refl;
  ends = ends e;
  are = ap (λ (xs : List Item). Calls remote (Some (AskPrepare values)) said ∷ xs) (finals_said request said f items k);
}
  where
    ends : (is_yes said ≡ false) ⊎ (remote + 1 ≡ setup.remotes) → (is_yes said ≡ false) ⊎ (remote + 0 + 1 ≡ setup.remotes)
    ends (inl n) = inl n
    ends (inr n) = inr (omega (arith, n))

pub agreed_left : (setup : Setup) (request : Option HostMessage) (values : List (List ℕ)) (remote : ℕ) (said : Said) → is_yes said ≡ true → (items : List Item)
    → IsLeft setup request (Calling values (remote + 1)) items → IsLeft setup request (Calling values remote) (Calls remote (Some (AskPrepare values)) said ∷ items)
agreed_left setup request values remote said y items k = record {
  firsts = said ∷ k.firsts;
  last = k.last;
  few = let f = k.few in omega (arith, f);
  agree = rw y k.agree;
  ends = ends k.ends;
  are = ap (λ (xs : List Item). Calls remote (Some (AskPrepare values)) said ∷ xs) k.are;
}
  where
    ends : (is_yes k.last ≡ false) ⊎ (remote + 1 + length k.firsts + 1 ≡ setup.remotes) → (is_yes k.last ≡ false) ⊎ (remote + suc (length k.firsts) + 1 ≡ setup.remotes)
    ends (inl n) = inl n
    ends (inr n) = inr (omega (arith, n))

-- ---- each can go on

pub calls_end : (setup : Setup) (request : Option HostMessage) (values : List (List ℕ)) (remote : ℕ) → remote ≤ setup.remotes - 1 → (items : List Item) × CallsLeft setup request values remote items
calls_end setup request values remote h = (
  Calls remote (Some (AskPrepare values)) No ∷ map (λ line. Says (remote_line line)) (final_lines request No),
  record {
    firsts = [];
    last = No;
    few = let none : remote + 0 ≡ remote = omega arith in omega (arith, none, h);
    agree = refl;
    ends = inl refl;
    are = refl;
  },
)

pub asking_ends : (setup : Setup) (request : Option HostMessage) (values names : List (List ℕ)) → (items : List Item) × AskingLeft setup request values names items
asking_ends setup request values [] = calls_end setup request values 0 (omega arith)
asking_ends setup request values (name ∷ names) =
    let more = asking_ends setup request (values ++ [] ∷ []) names in
    (Says (remote_line (Getconfig name)) ∷ Told (Some (Value [])) ∷ more.0, ([], more.0, refl, more.1))

-- the remote that is called next is one of them
abbrev pub Within : Setup → Phase → Type 0
Within setup (Calling values remote) = remote ≤ setup.remotes - 1
Within setup p = Unit {0}

pub can_end : (setup : Setup) (request : Option HostMessage) (p : Phase) → Within setup p → (items : List Item) × IsLeft setup request p items
can_end setup request (Saying line lines) h = (map (λ (l : List ℕ). Says l) (line ∷ lines), refl)
can_end setup request (Working asked) h =
    (Calls 0 (Some asked) No ∷ map (λ line. Says (remote_line line)) (final_lines request No), record { remote = 0; said = No; among = omega arith; are = refl })
can_end setup request (Asking values name names) h = asking_ends setup request values (name ∷ names)
can_end setup request (Awaiting values names) h =
    let more = asking_ends setup request (values ++ [] ∷ []) names in
    (Told (Some (Value [])) ∷ more.0, ([], more.0, refl, more.1))
can_end setup request (Calling values remote) h = calls_end setup request values remote h

-- ---- of a whole job

-- the values that are told, after these
pub record Values (setup : Setup) (request : Option HostMessage) (before names : List (List ℕ)) (items : List Item) : Type 0 where
  pub values : List (List ℕ)
  pub more : List Item
  pub all : length values ≡ length names
  pub are : items ≡ asked_values names values ++ more
  pub calls : CallsLeft setup request (before ++ values) 0 more

pub values_left : (setup : Setup) (request : Option HostMessage) (before names : List (List ℕ)) (items : List Item) → AskingLeft setup request before names items
    → Values setup request before names items
values_left setup request before [] items k = record {
  values = [];
  more = items;
  all = refl;
  are = refl;
  calls = subst (λ (vs : List (List ℕ)). CallsLeft setup request vs 0 items) (sym (append-nil before)) k;
}
values_left setup request before (name ∷ names) items k =
    let v = values_left setup request (before ++ k.0 ∷ []) names k.1 k.3 in
    record {
      values = k.0 ∷ v.values;
      more = v.more;
      all = ap (λ (n : ℕ). suc n) v.all;
      are = k.2 ∙ ap (λ (xs : List Item). Says (remote_line (Getconfig name)) ∷ Told (Some (Value k.0)) ∷ xs) v.are;
      calls = subst (λ (vs : List (List ℕ)). CallsLeft setup request vs 0 v.more) (append_assoc before (k.0 ∷ []) v.values) v.calls;
    }

pub readied : (setup : Setup) (request : Option HostMessage) (items : List Item) → AskingLeft setup request [] setup.settings items → IsReadied setup request (Told request ∷ items)
readied setup request items k =
    let v = values_left setup request [] setup.settings items k in
    let c = v.calls in
    record {
      values = v.values;
      firsts = c.firsts;
      last = c.last;
      all = v.all;
      few = let f = c.few in omega (arith, f);
      agree = c.agree;
      ends = ends c.last (length c.firsts) c.ends;
      are = ap (λ (xs : List Item). Told request ∷ xs)
          (v.are ∙ ap (λ (xs : List Item). asked_values setup.settings v.values ++ xs) c.are
          ∙ sym (append_assoc (asked_values setup.settings v.values) (calls_from 0 (AskPrepare v.values) (c.firsts ++ c.last ∷ [])) (map (λ (line : RemoteMessage). Says (remote_line line)) (final_lines request c.last))));
    }
  where
    ends : (last : Said) (n : ℕ) → (is_yes last ≡ false) ⊎ (0 + n + 1 ≡ setup.remotes) → (is_yes last ≡ false) ⊎ (n + 1 ≡ setup.remotes)
    ends last n (inl h) = inl h
    ends last n (inr h) = inr (omega (arith, h))

pub worked : (setup : Setup) (asked : Asked) (request : Option HostMessage) (items : List Item) → WorkLeft setup asked request items → IsWorked setup asked request (Told request ∷ items)
worked setup asked request items k =
    record { remote = k.remote; said = k.said; among = k.among; are = ap (λ (xs : List Item). Told request ∷ xs) k.are }
