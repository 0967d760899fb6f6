-- What a lent entry says.
use Rattle.journal_model.specs.declared.entry.What.{What}
use Rattle.journal_model.specs.declared.entry.What.TheVariants.{Claim, Start, NoStart, Lead, Ask, Put, Sent, Mute, Got, End, Verdict, Lost, Answer, Note, Again}
use Rattle.journal_model.specs.declared.entry.Entry.{Entry}
use Rattle.journal_scan.specs.declared.entry.WhatRef.{WhatRef}
use Rattle.journal_scan.specs.declared.entry.WhatRef.TheVariants.{Claim as ClaimRef, Start as StartRef, NoStart as NoStartRef, Lead as LeadRef, Ask as AskRef, Put as PutRef, Sent as SentRef, Mute as MuteRef, Got as GotRef, End as EndRef, Verdict as VerdictRef, Lost as LostRef, Answer as AnswerRef, Note as NoteRef, Again as AgainRef}
use Rattle.journal_scan.specs.declared.entry.EntryRef.{EntryRef}

abbrev pub what_shown : WhatRef → What
what_shown (ClaimRef task child) = Claim task child
what_shown (StartRef child slot offer) = Start child slot offer
what_shown (NoStartRef slot) = NoStart slot
what_shown (LeadRef child job line) = Lead child job line.now
what_shown (AskRef child job task line) = Ask child job task line.now
what_shown (PutRef child job line) = Put child job line.now
what_shown (SentRef child) = Sent child
what_shown (MuteRef child) = Mute child
what_shown (GotRef child line) = Got child line.now
what_shown (EndRef child why) = End child why
what_shown (VerdictRef child job verdict) = Verdict child job verdict
what_shown (LostRef child task) = Lost child task
what_shown (AnswerRef task answer) = Answer task answer
what_shown (AgainRef task answer) = Again task answer
what_shown (NoteRef task chunk count) = Note task chunk count

abbrev pub entry_shown : EntryRef → Entry
entry_shown e = record { by = e.by; what = what_shown e.what }
