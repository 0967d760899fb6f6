-- What a borrowed line says.
use Rattle.ann_key.specs.KeyRefs.{text_of}
use Rattle.kept_file.specs.Text.KeptLines.{KeptLine, Setting, Expression, State, Url, Chunks}
use Rattle.kept_file.specs.declared.text.kept.Kept.{Kept}
use Rattle.kept_file.specs.declared.text.kept.Kept.TheVariants.{Setting as KeptSetting, Expression as KeptExpression, State as KeptState, Url as KeptUrl, Chunks as KeptChunks}

abbrev pub kept_shown : Kept → KeptLine
kept_shown (KeptSetting name value) = Setting name.now value.now
kept_shown (KeptExpression expression) = Expression expression.now
kept_shown (KeptState key value) = State (text_of key) value.now
kept_shown (KeptUrl key url) = Url (text_of key) url.now
kept_shown (KeptChunks key log) = Chunks (text_of key) log.now
