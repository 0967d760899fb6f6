use Rattle.std.proofs.Common.{◌≡◌, ◌∙◌, ◌++◌, ◌∷◌, [], List, ℕ, Option, sym, ap, subst, length, get_or}
use Rattle.std.specs.Prelude.{position, slice_get, option_map}
use Rattle.annex_model.specs.Messages.{Getconfig, host_reading, remote_line}
use Rattle.kit_async_model.specs.declared.job.Job.{Job}
use Rattle.kit_async_model.specs.Books.{BookValue}
use Rattle.kit_async_model.specs.Hearings.{text_in, value_told}
use Rattle.kit_async_model.specs.Jobs.{has_number, job_line}
use Rattle.kit_async_core.proofs.Hears.{never_none, is_value, more_said}
use Rattle.kit_async_core.proofs.book.Book.hear_value.Goals as goal

pub unreachable-requires : goal.unreachable-requires
unreachable-requires c =
    never_none c.args.setup.now c.args.self.now.stands c.args.line c.args.number c.requires.is
    (ap (λ (v : BookValue). position (has_number c.args.number) v.stands.jobs) (sym c.self.view_is)
    ∙ ap (position (has_number c.args.number)) (sym c.as_slice.ensures.value) ∙ sym c.in_default.ensures)

pub tell_last-requires-clause-is : goal.tell_last-requires-clause-is
tell_last-requires-clause-is c =
    let n : ℕ = c.args.number in
    let job : Job = c.index.result.now in
    let value : c.in_ok-value.value ≡ value_told (host_reading (text_in c.self.inside.tagged c.args.line)) =
    c.in_ok-value.ensures ∙ c.value_told.ensures ∙ ap (λ (t : List ℕ). value_told (host_reading t)) (c.text_in.ensures ∙ ap (text_in c.self.inside.tagged) c.view.ensures) in
    let values : c.push.new.self ≡ job.values ++ value_told (host_reading (text_in c.self.inside.tagged c.args.line)) ∷ [] =
    c.in_ok-push.ensures.ok ∙ ap (λ (vs : List (List ℕ)). vs ++ c.in_ok-value.value ∷ []) c.in_ok-values.ensures ∙ ap (λ (v : List ℕ). job.values ++ v ∷ []) value in
    is_value c.args.setup.now c.args.self.now.stands c.args.line n c.in-Some.at c.push.new.self job c.requires.is
    (ap (λ (v : BookValue). position (has_number n) v.stands.jobs) (sym c.self.view_is) ∙ ap (position (has_number n)) (sym c.as_slice.ensures.value) ∙ sym c.in-Some.ensures)
    (subst (λ (v : BookValue). job ≡ get_or v.stands.jobs c.in-Some.at job) c.self.view_is c.index.ensures)
    (subst (λ (v : BookValue). c.push.new.self ≡ job.values ++ value_told (host_reading (text_in v.stands.tagged c.args.line)) ∷ []) c.self.view_is values)

pub tell_more-requires-clause-is : goal.tell_more-requires-clause-is
tell_more-requires-clause-is c =
    let n : ℕ = c.args.number in
    let job : Job = c.index.result.now in
    let value : c.in_ok-value.value ≡ value_told (host_reading (text_in c.self.inside.tagged c.args.line)) =
    c.in_ok-value.ensures ∙ c.value_told.ensures ∙ ap (λ (t : List ℕ). value_told (host_reading t)) (c.text_in.ensures ∙ ap (text_in c.self.inside.tagged) c.view.ensures) in
    let values : c.push.new.self ≡ job.values ++ value_told (host_reading (text_in c.self.inside.tagged c.args.line)) ∷ [] =
    c.in_ok-push.ensures.ok ∙ ap (λ (vs : List (List ℕ)). vs ++ c.in_ok-value.value ∷ []) c.in_ok-values.ensures ∙ ap (λ (v : List ℕ). job.values ++ v ∷ []) value in
    is_value c.args.setup.now c.args.self.now.stands c.args.line n c.in-Some.at c.push.new.self job c.requires.is
    (ap (λ (v : BookValue). position (has_number n) v.stands.jobs) (sym c.self.view_is) ∙ ap (position (has_number n)) (sym c.as_slice.ensures.value) ∙ sym c.in-Some.ensures)
    (subst (λ (v : BookValue). job ≡ get_or v.stands.jobs c.in-Some.at job) c.self.view_is c.index.ensures)
    (subst (λ (v : BookValue). c.push.new.self ≡ job.values ++ value_told (host_reading (text_in v.stands.tagged c.args.line)) ∷ []) c.self.view_is values)

pub tell_more-requires-clause-more : goal.tell_more-requires-clause-more
tell_more-requires-clause-more c =
    let n : ℕ = c.args.number in
    let name : Option (List ℕ) = slice_get c.args.setup.now.settings (length c.push.new.self) in
    more_said c.args.self.now.stands.jobs n c.in-Some.at name c.in-Some-2.said
    (ap (λ (v : BookValue). position (has_number n) v.stands.jobs) (sym c.self.view_is) ∙ ap (position (has_number n)) (sym c.as_slice.ensures.value) ∙ sym c.in-Some.ensures)
    (ap (option_map (job_line n))
    (ap (λ (k : ℕ). option_map (λ (t : List ℕ). remote_line (Getconfig t)) (slice_get c.args.setup.now.settings k)) (sym c.len.ensures) ∙ sym c.in_ok-text.ensures)
    ∙ sym c.in_ok-wired.ensures ∙ c.in-Some-2.is)
