use Rattle.std.proofs.Common.{◌≡◌, length, sym, ap, ◌∙◌}
use Rattle.journal_text.specs.Entries.Digits.{digest_of as of_bytes}
use Rattle.journal_text.proofs.EntriesLemmas.DigestBack.{digest_back}
use Rattle.journal_text.proofs.entries.digits.digest_of.Goals as goal

pub returns : goal.returns
returns c = let whole : length c.of-digest.result.bytes ≡ 64 = c.room-room.ensures in sym (digest_back c.of-digest.result whole) ∙ ap of_bytes c.of-digest.ensures
