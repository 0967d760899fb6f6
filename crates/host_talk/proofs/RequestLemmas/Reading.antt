-- What a message is read as.
use Rattle.std.proofs.Common.{◌≡◌, ℕ, List, refl, sym, ap, Bool, true, false, None}
use Rattle.std.specs.Prelude.{bytes_eq}
use Rattle.std.specs.Str.{IsUtf8, is_utf8}
use Rattle.std.proofs.lemmas.Slice.Eq.{bytes_eq-Decides}
use Rattle.std.proofs.lemmas.Str.{IsUtf8-from_is_utf8}
use Rattle.annex_model.specs.Extensions.{names_of}
use Rattle.annex_model.specs.Messages.{AskExtensions}
use Rattle.annex_model.specs.Talks.{has_lead}
use Rattle.host_talk.specs.declared.request.request.Request.{Request}
use Rattle.host_talk.specs.declared.request.request.Request.TheVariants.{TransferExport, CheckExport, RemoveExport, RenameExport}
use Rattle.host_talk.specs.Request.Requests.{is_request, message_of, name_of}

pub told_names : (names : List ℕ) (offer : Bool) → bytes_eq names (names_of offer) ≡ true → names_of offer ≡ names
told_names names offer h = sym ((bytes_eq-Decides names (names_of offer)).0 h)

pub no_text : (file : List ℕ) → (IsUtf8 file → ⊥) → is_utf8 file ≡ false
no_text file bad = go (is_utf8 file) refl
  where
    go : (b : Bool) → is_utf8 file ≡ b → b ≡ false
    go true e = absurd (bad (IsUtf8-from_is_utf8 file e))
    go false e = refl

pub same_offer : (names : List ℕ) (offer : Bool) → names_of offer ≡ names → AskExtensions (names_of offer) ≡ AskExtensions names
same_offer names offer h = ap AskExtensions h

pub unoffered : (names : List ℕ) → bytes_eq names (names_of true) ≡ false → bytes_eq names (names_of false) ≡ false → is_request (AskExtensions names) ≡ false
unoffered names h k = rw (h, k) refl

-- a request without a lead says no name
pub unnamed : (r : Request) → has_lead (message_of r) ≡ false → name_of r ≡ None
unnamed (TransferExport store key file name) h = absurd cc
unnamed (CheckExport key name) h = absurd cc
unnamed (RemoveExport key name) h = absurd cc
unnamed (RenameExport key name onto) h = absurd cc
unnamed r h = refl
