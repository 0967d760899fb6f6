-- A kit that takes its first line.
use Rattle.std.proofs.Common.{ℕ, ◌≡◌, Bool, true, false, cond, length, List, [], ◌∷◌, ◌++◌, Option, Some, None, option_map, refl, sym, ap, subst, ◌∙◌}
use Rattle.std.specs.Prelude.{filter_map, MatchOption, ◌&&◌, nat_le}
use Rattle.std.proofs.lemmas.List.Elements.{filter_map-append}
use Rattle.annex_model.specs.Lines.{text, has_newline}
use Rattle.annex_model.specs.Messages.{HostMessage, host_reading}
use Rattle.wire_line.specs.HeldBytes.{first_line, after_line}
use Rattle.kit_serve.specs.declared.kit.call.Said.{Said}
use Rattle.kit_serve.specs.declared.kit.call.Call.{Call}
use Rattle.kit_serve.specs.Kit.Kits.{Heard, lines_to}
use Rattle.kit_serve.specs.Kit.Stages.{KitValue, Follows, is_free}
use Rattle.pair_kit.specs.declared.taken.Taken.{Taken}
use Rattle.pair_kit.specs.Shelves.{Items}
use Rattle.pair_kit.specs.Cues.{CueValue, settings}
use Rattle.pair_kit.specs.Pairs.{PairValue, heard, heard_by}
use Rattle.pair_kit.specs.Works.{is_waiting, has_whole, word_for, call_for, request_with, last_said, Serves, StepsBy, Takes}
use Rattle.pair_kit.specs.Outcomes.{TakesOne}
use Rattle.pair_kit.proofs.Kits.{call_is}

pub heard_more : (taken : List Taken) (line : List ℕ) (call : Option Call) (m : HostMessage) → host_reading line ≡ Some m
    → heard (taken ++ record { line = line; call = call } ∷ []) ≡ heard taken ++ record { message = m; call = call } ∷ []
heard_more taken line call m reads =
    filter_map-append heard_by taken (record { line = line; call = call } ∷ []) ∙ ap (λ (l : List Heard). heard taken ++ l) (one (host_reading line) reads)
  where
    one : (r : Option HostMessage) → r ≡ Some m
        → filter_map (λ (t : Taken). option_map (λ (x : HostMessage). let h : Heard = record { message = x; call = t.call } in h) r) (record { line = line; call = call } ∷ [])
        ≡ record { message = m; call = call } ∷ []
    one r e = rw e refl

pub takes : (keys files : Items) (old new : PairValue) (m : HostMessage) (call : Option Call) (say : List (List ℕ)) (line : Option (List ℕ))
    → Follows settings old.kit (heard old.taken) → StepsBy (word_for keys files m) old.kit new.kit m call say → host_reading (first_line old.at_kit) ≡ Some m
    → new ≡ record old {
      kit = new.kit;
      request = request_with old.request m (first_line old.at_kit);
      taken = old.taken ++ record { line = first_line old.at_kit; call = call } ∷ [];
      at_kit = after_line old.at_kit;
      to_host = old.to_host ++ text say;
    }
    → line ≡ last_said (is_free new.kit.stage) say
    → Takes keys files old new m (option_map (λ c. c.asked) call) line
takes keys files old new m call say line follows steps reads is answer =
    let h = heard old.taken in
    let same : call ≡ call_for keys files (option_map (λ (c : Call). c.asked) call) = call_is keys files h m call (steps.asks h follows) steps.word in
    let says : say ≡ lines_to settings h (record { message = m; call = call_for keys files (option_map (λ (c : Call). c.asked) call) }) =
    subst (λ (c : Option Call). say ≡ lines_to settings h (record { message = m; call = c })) same (steps.says h follows) in
    record {
      asks = sym (steps.asks h follows);
      goes = is
          ∙ ap (λ (c : Option Call). let p : PairValue = record old {
            kit = new.kit;
            request = request_with old.request m (first_line old.at_kit);
            taken = old.taken ++ record { line = first_line old.at_kit; call = c } ∷ [];
            at_kit = after_line old.at_kit;
            to_host = old.to_host ++ text say;
          } in p) same
          ∙ ap (λ (l : List (List ℕ)). let p : PairValue = record old {
            kit = new.kit;
            request = request_with old.request m (first_line old.at_kit);
            taken = old.taken ++ record { line = first_line old.at_kit; call = call_for keys files (option_map (λ (x : Call). x.asked) call) } ∷ [];
            at_kit = after_line old.at_kit;
            to_host = old.to_host ++ text l;
          } in p) says;
      follows = subst (Follows settings new.kit) (sym (ap (λ (p : PairValue). heard p.taken) is ∙ heard_more old.taken (first_line old.at_kit) call m reads)) (steps.follows h follows);
      says = answer ∙ ap (last_said (is_free new.kit.stage)) says;
    }

-- a kit's work on a line that spells a message
pub work_done : (keys files k f : Items) (view old new : PairValue) (m : HostMessage) (call : Option Call) (say : List (List ℕ)) (line bytes : List ℕ) (answer : Option (List ℕ)) (word : Said)
    → view ≡ old → Follows settings old.kit (heard old.taken) → is_waiting view.at_kit ≡ false → (has_whole view.at_kit ≡ true) × (line ≡ first_line view.at_kit)
    → host_reading line ≡ Some m → word ≡ word_for keys files m → StepsBy word view.kit new.kit m call say → Serves keys files (option_map (λ c. c.asked) call) k f bytes
    → answer ≡ last_said (is_free new.kit.stage) say
    → new ≡ record view {
      kit = new.kit;
      request = request_with view.request m line;
      taken = view.taken ++ record { line = line; call = call } ∷ [];
      at_kit = after_line view.at_kit;
      to_host = view.to_host ++ text say;
    }
    → (is_waiting old.at_kit ≡ false) × TakesOne keys files old k f new answer bytes
work_done keys files k f view old new m call say line bytes answer word same follows some whole reads given steps serves says is =
    subst (λ (p : PairValue). (is_waiting p.at_kit ≡ false) × TakesOne keys files p k f new answer bytes) same (
      some,
      record {
        message = m;
        asked = option_map (λ (c : Call). c.asked) call;
        next = ap (λ (b : Bool). cond b (host_reading (first_line view.at_kit)) None) whole.0 ∙ first;
        serves = serves;
        takes = takes keys files view new m call say answer (subst (λ (p : PairValue). Follows settings p.kit (heard p.taken)) (sym same) follows)
            (subst (λ (w : Said). StepsBy w view.kit new.kit m call say) given steps) first
            (is ∙ ap (λ (l : List ℕ). let p : PairValue = record view {
              kit = new.kit;
              request = request_with view.request m l;
              taken = view.taken ++ record { line = l; call = call } ∷ [];
              at_kit = after_line view.at_kit;
              to_host = view.to_host ++ text say;
            } in p) whole.1) says;
      },
    )
  where
    first : host_reading (first_line view.at_kit) ≡ Some m
    first = ap host_reading (sym whole.1) ∙ reads

pub of_some : {X : Type 0} (o : Option X) (x : X) (P : Type 0) (Q : X → Type 0) → o ≡ Some x → MatchOption o P Q → Q x
of_some {X = X} o x P Q e m = subst (λ (y : Option X). MatchOption y P Q) e m

pub whole_ends : (side : List ℕ) → has_whole side ≡ true → has_newline side ≡ true
whole_ends side h = go (has_newline side) (nat_le (length (first_line side)) 131072) h
  where
    go : (a b : Bool) → (a && b) ≡ true → a ≡ true
    go true b e = refl
    go false b e = cc

-- a pair of which these parts were changed, one after the other
pub pair_is : (view new : PairValue) (kit : KitValue CueValue) (r r' a a' h h' : List ℕ) (t t' : List Taken)
    → new ≡ record view { kit = kit; request = r; taken = t; at_kit = a; to_host = h } → r ≡ r' → t ≡ t' → a ≡ a' → h ≡ h'
    → new ≡ record view { kit = kit; request = r'; taken = t'; at_kit = a'; to_host = h' }
pair_is view new kit r r' a a' h h' t t' is er et ea eh =
    is
    ∙ ap (λ (x : List ℕ). let p : PairValue = record view { kit = kit; request = x; taken = t; at_kit = a; to_host = h } in p) er
    ∙ ap (λ (x : List Taken). let p : PairValue = record view { kit = kit; request = r'; taken = x; at_kit = a; to_host = h } in p) et
    ∙ ap (λ (x : List ℕ). let p : PairValue = record view { kit = kit; request = r'; taken = t'; at_kit = x; to_host = h } in p) ea
    ∙ ap (λ (x : List ℕ). let p : PairValue = record view { kit = kit; request = r'; taken = t'; at_kit = a'; to_host = x } in p) eh
