-- What is said before a request's own line.
use Rattle.std.proofs.Common.{◌≡◌, ℕ, List, [], ◌∷◌, ◌++◌, refl, sym, ap, ◌∙◌, Some, Option}
use Rattle.std.specs.Prelude.{map}
use Rattle.annex_model.specs.Messages.{HostMessage, AskExtensions, Prepare, Initremote, Transfer, Checkpresent, Remove, Listconfigs, Getcost, Getavailability, Getinfo, Whereis, Exportsupported, Export, Transferexport, Checkpresentexport, Removeexport, Renameexport, Value, Creds, HostError, IsAskable, host_line, host_reading}
use Rattle.annex_model.specs.Talks.{Item, Side, Host, IsLead, SaysName, AreReplied, IsReplied, shown}
use Rattle.annex_model.specs.Hearings.{asked_by, request_in}
use Rattle.annex_model.proofs.Readings.{canonical_read}

-- a request without a lead is asked by its line, whatever comes after it
pub plain_asked : (q : HostMessage) (rest : List Item) → IsLead q [] → asked_by (Some q) rest ≡ Some q
plain_asked (AskExtensions names) rest h = refl
plain_asked Prepare rest h = refl
plain_asked Initremote rest h = refl
plain_asked (Transfer store key file) rest h = refl
plain_asked (Checkpresent key) rest h = refl
plain_asked (Remove key) rest h = refl
plain_asked Listconfigs rest h = refl
plain_asked Getcost rest h = refl
plain_asked Getavailability rest h = refl
plain_asked Getinfo rest h = refl
plain_asked (Whereis key) rest h = refl
plain_asked Exportsupported rest h = refl
plain_asked (Export name) rest h = absurd h
plain_asked (Transferexport store key file) rest h = refl
plain_asked (Checkpresentexport key) rest h = refl
plain_asked (Removeexport key) rest h = refl
plain_asked (Renameexport key onto) rest h = refl
plain_asked (Value value) rest h = refl
plain_asked (Creds user password) rest h = refl
plain_asked (HostError text) rest h = refl

-- what is said before a request is a name
pub says_name : (q : HostMessage) (line : List ℕ) (more : List (List ℕ)) → IsLead q (line ∷ more) → SaysName (line ∷ more)
says_name (AskExtensions names) line more h = absurd cc
says_name Prepare line more h = absurd cc
says_name Initremote line more h = absurd cc
says_name (Transfer store key file) line more h = absurd cc
says_name (Checkpresent key) line more h = absurd cc
says_name (Remove key) line more h = absurd cc
says_name Listconfigs line more h = absurd cc
says_name Getcost line more h = absurd cc
says_name Getavailability line more h = absurd cc
says_name Getinfo line more h = absurd cc
says_name (Whereis key) line more h = absurd cc
says_name Exportsupported line more h = absurd cc
says_name (Export name) line more h = absurd h
says_name (Transferexport store key file) line more h = h
says_name (Checkpresentexport key) line more h = h
says_name (Removeexport key) line more h = h
says_name (Renameexport key onto) line more h = h
says_name (Value value) line more h = absurd cc
says_name (Creds user password) line more h = absurd cc
says_name (HostError text) line more h = absurd cc

text_is : (i : Item) (line : List ℕ) (x y : List (Side × List ℕ)) → shown i ∷ x ≡ (Host, line) ∷ y → i.text ≡ line
text_is i line x y h = let e : shown i ≡ (Host, line) = cc in ap (λ (s : Side × List ℕ). s.1) e

tails : (a b : Side × List ℕ) (x y : List (Side × List ℕ)) → a ∷ x ≡ b ∷ y → x ≡ y
tails a b x y h = cc

module _ (replies : ℕ → List (List ℕ)) (q : HostMessage) where
  -- the request that a part begins with is the one that it answers
  pub part_asks : (part : List Item) → IsAskable q → IsReplied replies q part → request_in part ≡ Some q
  part_asks part askable r = by_lead part r.lead r.leads r.lines
    where
      named : (name : List ℕ) (p : List Item) (lead : List (List ℕ)) → lead ≡ host_line (Export name) ∷ [] → AreReplied replies lead q p → request_in p ≡ Some q
      named name [] lead is h = absurd (cc (rw is at h))
      named name (i ∷ []) lead is h = absurd (cc (rw is at h))
      named name (i ∷ k ∷ rest) lead is h = go (rw is at h)
        where
          go : AreReplied replies (host_line (Export name) ∷ []) q (i ∷ k ∷ rest) → request_in (i ∷ k ∷ rest) ≡ Some q
          go same =
              let first : i.text ≡ host_line (Export name) = text_is i (host_line (Export name)) _ _ same in
              let own : k.text ≡ host_line q = text_is k (host_line q) _ _ (tails _ _ _ _ same) in
              ap (λ (o : Option HostMessage). asked_by o (k ∷ rest)) (ap host_reading first ∙ canonical_read (Export name) tt)
              ∙ ap host_reading own ∙ canonical_read q askable

      by_lead : (p : List Item) (lead : List (List ℕ)) → IsLead q lead → AreReplied replies lead q p → request_in p ≡ Some q
      by_lead [] [] l h = absurd cc
      by_lead (i ∷ rest) [] l h =
          ap (λ (o : Option HostMessage). asked_by o rest) (ap host_reading (text_is i (host_line q) _ _ h) ∙ canonical_read q askable) ∙ plain_asked q rest l
      by_lead p (line ∷ more) l h = let s = says_name q line more l in named s.0 p (line ∷ more) s.1 h

-- a part that asks goes on asking the same
pub asked_more : (part more : List Item) (q : HostMessage) → request_in part ≡ Some q → request_in (part ++ more) ≡ Some q
asked_more [] more q h = absurd cc
asked_more (i ∷ is) more q h = go (host_reading i.text) is h
  where
    go : (r : Option HostMessage) (is : List Item) → asked_by r is ≡ Some q → asked_by r (is ++ more) ≡ Some q
    go (Some (Export name)) [] h = absurd cc
    go (Some (Export name)) (k ∷ ks) h = h
    go r is h = h
