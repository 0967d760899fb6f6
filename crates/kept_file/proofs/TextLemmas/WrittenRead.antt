-- A kept file that is written is read as what it was written of.
use Rattle.std.proofs.Common.{◌≡◌, ℕ, Bool, true, false, not, List, [], ◌∷◌, ◌++◌, map, filter, None, refl, sym, ap, ◌∙◌}
use Rattle.std.specs.Prelude.{All}
use Rattle.std.proofs.lemmas.List.{append-nil, map-append as mapped-append}
use Rattle.annex_model.specs.Lines.{text}
use Rattle.registers.specs.Registers.{RegisterFile, IsKept, nothing_set}
use Rattle.registers.specs.RegLines.{Line, ConfigLine, StateLine, UrlLine, lines_of, later_lines_of, keyed_lines_of, wanted_lines, set_by_lines}
use Rattle.registers.proofs.Fed.{lines_again}
use Rattle.registers.proofs.Readings.{lines_fit}
use Rattle.task_text.specs.declared.chunk_log.note.Note.{Note}
use Rattle.kept_file.specs.Text.KeptFiles.{head, lines_in, bad_line, bad_among, behind_head, settings_in, notes_in, registers_of, notes_of, is_config, lines_of_kind, written_line, written_note, kept_text, cut_note, IsKeepable}
use Rattle.kept_file.proofs.TextLemmas.Texts.{filtered-append}
use Rattle.kept_file.proofs.TextLemmas.WrittenLines.{Written, lines_back, notes_written, lines_written, none_bad}

-- ---- the two kinds of lines
abbrev is_other : Line → Bool
is_other l = not (is_config l)

configs_stay : (es : List (List ℕ × List ℕ)) → filter is_config (map (λ e. ConfigLine e.0 e.1) es) ≡ map (λ e. ConfigLine e.0 e.1) es
configs_stay [] = refl
configs_stay (e ∷ es) = ap (λ (ls : List Line). ConfigLine e.0 e.1 ∷ ls) (configs_stay es)

configs_go : (es : List (List ℕ × List ℕ)) → filter is_other (map (λ e. ConfigLine e.0 e.1) es) ≡ []
configs_go [] = refl
configs_go (e ∷ es) = configs_go es

states_stay : (es : List (List ℕ × List ℕ)) → filter is_other (map (λ e. StateLine e.0 e.1) es) ≡ map (λ e. StateLine e.0 e.1) es
states_stay [] = refl
states_stay (e ∷ es) = ap (λ (ls : List Line). StateLine e.0 e.1 ∷ ls) (states_stay es)

states_go : (es : List (List ℕ × List ℕ)) → filter is_config (map (λ e. StateLine e.0 e.1) es) ≡ []
states_go [] = refl
states_go (e ∷ es) = states_go es

urls_stay : (es : List (List ℕ × List ℕ)) → filter is_other (map (λ e. UrlLine e.0 e.1) es) ≡ map (λ e. UrlLine e.0 e.1) es
urls_stay [] = refl
urls_stay (e ∷ es) = ap (λ (ls : List Line). UrlLine e.0 e.1 ∷ ls) (urls_stay es)

urls_go : (es : List (List ℕ × List ℕ)) → filter is_config (map (λ e. UrlLine e.0 e.1) es) ≡ []
urls_go [] = refl
urls_go (e ∷ es) = urls_go es

wanted_stays : (w : List ℕ) → filter is_other (wanted_lines w) ≡ wanted_lines w
wanted_stays [] = refl
wanted_stays (b ∷ bs) = refl

wanted_goes : (w : List ℕ) → filter is_config (wanted_lines w) ≡ []
wanted_goes [] = refl
wanted_goes (b ∷ bs) = refl

joined : {X : Type 0} (p : X → Bool) (xs ys us vs : List X) → filter p xs ≡ us → filter p ys ≡ vs → filter p (xs ++ ys) ≡ us ++ vs
joined p xs ys us vs h k = filtered-append p xs ys ∙ ap (λ zs. zs ++ filter p ys) h ∙ ap (λ zs. us ++ zs) k

module _ (r : RegisterFile) where
  later_stays : filter is_other (later_lines_of r) ≡ later_lines_of r
  later_stays =
      joined is_other (wanted_lines r.wanted) (keyed_lines_of r) (wanted_lines r.wanted) (keyed_lines_of r) (wanted_stays r.wanted)
      (joined is_other (map (λ e. StateLine e.0 e.1) r.state) (map (λ e. UrlLine e.0 e.1) r.urls) (map (λ e. StateLine e.0 e.1) r.state) (map (λ e. UrlLine e.0 e.1) r.urls) (states_stay r.state) (urls_stay r.urls))

  later_goes : filter is_config (later_lines_of r) ≡ []
  later_goes =
      joined is_config (wanted_lines r.wanted) (keyed_lines_of r) [] [] (wanted_goes r.wanted)
      (joined is_config (map (λ e. StateLine e.0 e.1) r.state) (map (λ e. UrlLine e.0 e.1) r.urls) [] [] (states_go r.state) (urls_go r.urls))

  configs : filter is_config (lines_of r) ≡ map (λ e. ConfigLine e.0 e.1) r.config
  configs =
      joined is_config (map (λ e. ConfigLine e.0 e.1) r.config) (later_lines_of r) (map (λ e. ConfigLine e.0 e.1) r.config) [] (configs_stay r.config) later_goes
      ∙ append-nil (map (λ e. ConfigLine e.0 e.1) r.config)

  others : filter is_other (lines_of r) ≡ later_lines_of r
  others = joined is_other (map (λ e. ConfigLine e.0 e.1) r.config) (later_lines_of r) [] (later_lines_of r) (configs_go r.config) later_stays

-- ---- the file
module _ (config now : RegisterFile) (notes : List Note) (config_kept : IsKept config) (now_kept : IsKept now) (keepable : All IsKeepable notes) where
  abbrev merged : RegisterFile
  merged = record now { config = config.config }

  merged_kept : IsKept (record now { config = config.config })
  merged_kept = record {
    config_rises = config_kept.config_rises;
    creds_rise = now_kept.creds_rise;
    state_rises = now_kept.state_rises;
    urls_rise = now_kept.urls_rise;
    config_texts = config_kept.config_texts;
    creds_texts = now_kept.creds_texts;
    wanted_text = now_kept.wanted_text;
    state_texts = now_kept.state_texts;
    urls_texts = now_kept.urls_texts;
  }

  abbrev file_lines : List (List ℕ)
  file_lines = map written_line (lines_of merged) ++ map written_note notes

  file_is : (lines_of_kind true config ++ lines_of_kind false now ++ map written_note notes) ≡ file_lines
  file_is =
      ap (λ (ls : List Line). map written_line ls ++ lines_of_kind false now ++ map written_note notes) (configs config)
      ∙ ap (λ (ls : List Line). map written_line (map (λ e. ConfigLine e.0 e.1) config.config) ++ map written_line ls ++ map written_note notes) (others now)
      ∙ ap (λ (ls : List (List ℕ)). ls ++ map written_note notes) (sym (mapped-append written_line (map (λ e. ConfigLine e.0 e.1) config.config) (later_lines_of now)))

  file_written : Written file_lines (lines_of merged ++ []) (map cut_note notes)
  file_written = lines_written (lines_of merged) (map written_note notes) [] (map cut_note notes) (lines_fit merged merged_kept) (notes_written notes keepable)

  file_cut : lines_in (kept_text config now notes) ≡ head ∷ file_lines
  file_cut = ap (λ (ls : List (List ℕ)). lines_in (text (head ∷ ls))) file_is ∙ lines_back (head ∷ file_lines) file_written.apart

  pub file_right : bad_line (kept_text config now notes) ≡ None
  file_right = ap bad_among file_cut ∙ none_bad 2 file_lines file_written.right

  pub file_registers : registers_of (kept_text config now notes) ≡ record now { config = config.config; creds = [] }
  file_registers =
      ap (λ (ls : List (List ℕ)). set_by_lines nothing_set (settings_in (behind_head ls))) file_cut
      ∙ ap (set_by_lines nothing_set) (file_written.set ∙ append-nil (lines_of merged))
      ∙ lines_again merged merged_kept

  pub file_notes : notes_of (kept_text config now notes) ≡ map cut_note notes
  file_notes = ap (λ (ls : List (List ℕ)). notes_in (behind_head ls)) file_cut ∙ file_written.noted
