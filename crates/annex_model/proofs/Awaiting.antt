-- What stands before the last line of an answer awaits more.
use Rattle.std.proofs.Common.{◌≡◌, List, [], ◌∷◌, ◌++◌, refl, ap, Bool, true, false, cond, Some, None, Option}
use Rattle.std.specs.Prelude.{◌&&◌, IsSome}
use Rattle.std.specs.List.{list_all}
use Rattle.annex_model.specs.declared.final_line.Final.{Final}
use Rattle.annex_model.specs.declared.final_line.Final.TheVariants.{Unsupported}
use Rattle.annex_model.specs.Messages.{RemoteMessage, UnsupportedRequest, HostMessage}
use Rattle.annex_model.specs.Talks.{Shape, OneLine, Configs, Infos, shape_of, final_of, awaits, may_go_on, by_shape, said_alone, done_if, are_configs, are_infos, are_pairs, is_config, is_infofield, is_infovalue, is_unsupported}
use Rattle.ann_key.proofs.Options.{none_not}
use Rattle.std.proofs.lemmas.Bool.{and_parts as both}

abbrev Said : Type 0
Said = List (Option RemoteMessage)

pub nothing_goes_on : (s : Shape) → may_go_on s [] ≡ true
nothing_goes_on OneLine = refl
nothing_goes_on Configs = refl
nothing_goes_on Infos = refl

two_unsupported : (x y : Option RemoteMessage) (ms : Said) → is_unsupported (x ∷ y ∷ ms) ≡ false
two_unsupported (Some UnsupportedRequest) y ms = refl
two_unsupported (Some m) y ms = refl
two_unsupported None y ms = refl

two_alone : (q : HostMessage) (x y : Option RemoteMessage) (ms : Said) → said_alone q (x ∷ y ∷ ms) ≡ None
two_alone q (Some m) y ms = refl
two_alone q None y ms = refl

done_true : (b : Bool) → IsSome (done_if b) → b ≡ true
done_true true h = refl
done_true false h = absurd cc

configs_before : (xs : Said) (m : Option RemoteMessage) (ms : Said) → are_configs (xs ++ m ∷ ms) ≡ true → list_all is_config xs ≡ true
configs_before [] m ms h = refl
configs_before (x ∷ []) m ms h = let t = both (is_config x) (are_configs (m ∷ ms)) h in rw t.0 refl
configs_before (x ∷ y ∷ xs) m ms h =
    let t = both (is_config x) (are_configs (y ∷ xs ++ m ∷ ms)) h in
    rw (t.0, configs_before (y ∷ xs) m ms t.1) refl

infos_before : (xs : Said) (m : Option RemoteMessage) (ms : Said) → are_infos (xs ++ m ∷ ms) ≡ true → are_pairs xs ≡ true
infos_before [] m ms h = refl
infos_before (f ∷ []) m ms h =
    (both (is_infofield f) (is_infovalue m) (both (is_infofield f && is_infovalue m) (are_infos ms) h).0).0
infos_before (f ∷ v ∷ xs) m ms h =
    let t = both (is_infofield f && is_infovalue v) (are_infos (xs ++ m ∷ ms)) h in
    let u = both (is_infofield f) (is_infovalue v) t.0 in
    rw (u.0, u.1, infos_before xs m ms t.1) refl

-- by the shape, after at least one message
shape_before : (s : Shape) (q : HostMessage) (x : Option RemoteMessage) (xs : Said) (m : Option RemoteMessage) (ms : Said)
    → IsSome (by_shape s q (x ∷ xs ++ m ∷ ms)) → may_go_on s (x ∷ xs) ≡ true
shape_before OneLine q x [] m ms h = absurd (none_not (said_alone q (x ∷ m ∷ ms)) (two_alone q x m ms) h)
shape_before OneLine q x (y ∷ xs) m ms h = absurd (none_not (said_alone q (x ∷ y ∷ xs ++ m ∷ ms)) (two_alone q x y (xs ++ m ∷ ms)) h)
shape_before Configs q x xs m ms h = configs_before (x ∷ xs) m ms (done_true (are_configs (x ∷ xs ++ m ∷ ms)) h)
shape_before Infos q x xs m ms h = infos_before (x ∷ xs) m ms (done_true (are_infos (x ∷ xs ++ m ∷ ms)) h)

long_unsupported : (x : Option RemoteMessage) (xs : Said) (m : Option RemoteMessage) (ms : Said) → is_unsupported (x ∷ xs ++ m ∷ ms) ≡ false
long_unsupported x [] m ms = two_unsupported x m ms
long_unsupported x (y ∷ xs) m ms = two_unsupported x y (xs ++ m ∷ ms)

pub before_awaits : (q : HostMessage) (xs : Said) (m : Option RemoteMessage) (ms : Said) → IsSome (final_of q (xs ++ m ∷ ms)) → awaits q xs ≡ true
before_awaits q [] m ms h = nothing_goes_on (shape_of q)
before_awaits q (x ∷ xs) m ms h =
    let plain : final_of q (x ∷ xs ++ m ∷ ms) ≡ by_shape (shape_of q) q (x ∷ xs ++ m ∷ ms) =
    ap (λ (b : Bool). cond b (Some Unsupported) (by_shape (shape_of q) q (x ∷ xs ++ m ∷ ms))) (long_unsupported x xs m ms) in
    shape_before (shape_of q) q x xs m ms (some_same (final_of q (x ∷ xs ++ m ∷ ms)) (by_shape (shape_of q) q (x ∷ xs ++ m ∷ ms)) plain h)
  where
    some_same : (a b : Option Final) → a ≡ b → IsSome a → IsSome b
    some_same (Some f) (Some g) e s = refl
    some_same (Some f) None e s = absurd cc
    some_same None b e s = absurd cc
