-- What a borrowed message says.
use Rattle.std.specs.Prelude.{List, [], ◌∷◌}
use Rattle.ann_key.specs.KeyRefs.{text_of}
use Rattle.annex_model.specs.Messages.{RemoteMessage, Version, Extensions, UnsupportedRequest, Error, Progress, Debug, Info, Dirhash, DirhashLower, Getconfig, Setconfig, Getcreds, Setcreds, Getuuid, Getgitdir, Getgitremotename, Getwanted, Setwanted, Getstate, Setstate, Seturlpresent, Seturlmissing, Geturls, PrepareSuccess, PrepareFailure, InitremoteSuccess, InitremoteFailure, TransferSuccess, TransferFailure, CheckpresentSuccess, CheckpresentFailure, CheckpresentUnknown, RemoveSuccess, RemoveFailure, Config, Configend, Cost, Availability, Infofield, Infovalue, Infoend, WhereisSuccess, WhereisFailure, ExportsupportedSuccess, ExportsupportedFailure, RenameexportSuccess, RenameexportFailure}
use Rattle.annex_model.specs.Messages.{HostMessage, AskExtensions, Prepare, Initremote, Transfer, Checkpresent, Remove, Listconfigs, Getcost, Getavailability, Getinfo, Whereis, Exportsupported, Export, Transferexport, Checkpresentexport, Removeexport, Renameexport, Value, Creds, HostError}
use Rattle.annex_model.specs.Messages.{Param, Number, Key, Word, Rest, Direction, Scope}
use Rattle.wire_msg.specs.declared.parameters.Parameters.{Parameters}
use Rattle.wire_msg.specs.declared.parameters.Parameters.TheVariants.{Bare as BareParams, Number as NumberParams, Key as KeyParams, Rest as RestParams, Scope as ScopeParams, WordRest as WordRestParams, WordsRest as WordsRestParams, KeyRest as KeyRestParams, Transfer as TransferParams, TransferRest as TransferRestParams}
use Rattle.wire_msg.specs.declared.remote.RemoteMsg.{RemoteMsg}
use Rattle.wire_msg.specs.declared.remote.RemoteMsg.TheVariants.{Version as VersionMsg, Extensions as ExtensionsMsg, UnsupportedRequest as UnsupportedRequestMsg, Error as ErrorMsg, Progress as ProgressMsg, Debug as DebugMsg, Info as InfoMsg, Dirhash as DirhashMsg, DirhashLower as DirhashLowerMsg, Getconfig as GetconfigMsg, Setconfig as SetconfigMsg, Getcreds as GetcredsMsg, Setcreds as SetcredsMsg, Getuuid as GetuuidMsg, Getgitdir as GetgitdirMsg, Getgitremotename as GetgitremotenameMsg, Getwanted as GetwantedMsg, Setwanted as SetwantedMsg, Getstate as GetstateMsg, Setstate as SetstateMsg, Seturlpresent as SeturlpresentMsg, Seturlmissing as SeturlmissingMsg, Geturls as GeturlsMsg, PrepareSuccess as PrepareSuccessMsg, PrepareFailure as PrepareFailureMsg, InitremoteSuccess as InitremoteSuccessMsg, InitremoteFailure as InitremoteFailureMsg, TransferSuccess as TransferSuccessMsg, TransferFailure as TransferFailureMsg, CheckpresentSuccess as CheckpresentSuccessMsg, CheckpresentFailure as CheckpresentFailureMsg, CheckpresentUnknown as CheckpresentUnknownMsg, RemoveSuccess as RemoveSuccessMsg, RemoveFailure as RemoveFailureMsg, Config as ConfigMsg, Configend as ConfigendMsg, Cost as CostMsg, Availability as AvailabilityMsg, Infofield as InfofieldMsg, Infovalue as InfovalueMsg, Infoend as InfoendMsg, WhereisSuccess as WhereisSuccessMsg, WhereisFailure as WhereisFailureMsg, ExportsupportedSuccess as ExportsupportedSuccessMsg, ExportsupportedFailure as ExportsupportedFailureMsg, RenameexportSuccess as RenameexportSuccessMsg, RenameexportFailure as RenameexportFailureMsg}
use Rattle.wire_msg.specs.declared.host.HostMsg.{HostMsg}
use Rattle.wire_msg.specs.declared.host.HostMsg.TheVariants.{Extensions as AskExtensionsMsg, Prepare as PrepareMsg, Initremote as InitremoteMsg, Transfer as TransferMsg, Checkpresent as CheckpresentMsg, Remove as RemoveMsg, Listconfigs as ListconfigsMsg, Getcost as GetcostMsg, Getavailability as GetavailabilityMsg, Getinfo as GetinfoMsg, Whereis as WhereisMsg, Exportsupported as ExportsupportedMsg, Export as ExportMsg, Transferexport as TransferexportMsg, Checkpresentexport as CheckpresentexportMsg, Removeexport as RemoveexportMsg, Renameexport as RenameexportMsg, Value as ValueMsg, Creds as CredsMsg, Error as HostErrorMsg}

abbrev pub remote_shown : RemoteMsg → RemoteMessage
remote_shown (VersionMsg n) = Version n
remote_shown (ExtensionsMsg names) = Extensions names.now
remote_shown UnsupportedRequestMsg = UnsupportedRequest
remote_shown (ErrorMsg text) = Error text.now
remote_shown (ProgressMsg bytes) = Progress bytes
remote_shown (DebugMsg text) = Debug text.now
remote_shown (InfoMsg text) = Info text.now
remote_shown (DirhashMsg key) = Dirhash (text_of key)
remote_shown (DirhashLowerMsg key) = DirhashLower (text_of key)
remote_shown (GetconfigMsg name) = Getconfig name.now
remote_shown (SetconfigMsg name value) = Setconfig name.now value.now
remote_shown (GetcredsMsg setting) = Getcreds setting.now
remote_shown (SetcredsMsg setting user password) = Setcreds setting.now user.now password.now
remote_shown GetuuidMsg = Getuuid
remote_shown GetgitdirMsg = Getgitdir
remote_shown GetgitremotenameMsg = Getgitremotename
remote_shown GetwantedMsg = Getwanted
remote_shown (SetwantedMsg expression) = Setwanted expression.now
remote_shown (GetstateMsg key) = Getstate (text_of key)
remote_shown (SetstateMsg key value) = Setstate (text_of key) value.now
remote_shown (SeturlpresentMsg key url) = Seturlpresent (text_of key) url.now
remote_shown (SeturlmissingMsg key url) = Seturlmissing (text_of key) url.now
remote_shown (GeturlsMsg key prefix) = Geturls (text_of key) prefix.now
remote_shown PrepareSuccessMsg = PrepareSuccess
remote_shown (PrepareFailureMsg text) = PrepareFailure text.now
remote_shown InitremoteSuccessMsg = InitremoteSuccess
remote_shown (InitremoteFailureMsg text) = InitremoteFailure text.now
remote_shown (TransferSuccessMsg store key) = TransferSuccess store (text_of key)
remote_shown (TransferFailureMsg store key text) = TransferFailure store (text_of key) text.now
remote_shown (CheckpresentSuccessMsg key) = CheckpresentSuccess (text_of key)
remote_shown (CheckpresentFailureMsg key) = CheckpresentFailure (text_of key)
remote_shown (CheckpresentUnknownMsg key text) = CheckpresentUnknown (text_of key) text.now
remote_shown (RemoveSuccessMsg key) = RemoveSuccess (text_of key)
remote_shown (RemoveFailureMsg key text) = RemoveFailure (text_of key) text.now
remote_shown (ConfigMsg name description) = Config name.now description.now
remote_shown ConfigendMsg = Configend
remote_shown (CostMsg number) = Cost number
remote_shown (AvailabilityMsg global) = Availability global
remote_shown (InfofieldMsg name) = Infofield name.now
remote_shown (InfovalueMsg value) = Infovalue value.now
remote_shown InfoendMsg = Infoend
remote_shown (WhereisSuccessMsg text) = WhereisSuccess text.now
remote_shown WhereisFailureMsg = WhereisFailure
remote_shown ExportsupportedSuccessMsg = ExportsupportedSuccess
remote_shown ExportsupportedFailureMsg = ExportsupportedFailure
remote_shown (RenameexportSuccessMsg key) = RenameexportSuccess (text_of key)
remote_shown (RenameexportFailureMsg key) = RenameexportFailure (text_of key)

abbrev pub host_shown : HostMsg → HostMessage
host_shown (AskExtensionsMsg names) = AskExtensions names.now
host_shown PrepareMsg = Prepare
host_shown InitremoteMsg = Initremote
host_shown (TransferMsg store key file) = Transfer store (text_of key) file.now
host_shown (CheckpresentMsg key) = Checkpresent (text_of key)
host_shown (RemoveMsg key) = Remove (text_of key)
host_shown ListconfigsMsg = Listconfigs
host_shown GetcostMsg = Getcost
host_shown GetavailabilityMsg = Getavailability
host_shown GetinfoMsg = Getinfo
host_shown (WhereisMsg key) = Whereis (text_of key)
host_shown ExportsupportedMsg = Exportsupported
host_shown (ExportMsg name) = Export name.now
host_shown (TransferexportMsg store key file) = Transferexport store (text_of key) file.now
host_shown (CheckpresentexportMsg key) = Checkpresentexport (text_of key)
host_shown (RemoveexportMsg key) = Removeexport (text_of key)
host_shown (RenameexportMsg key onto) = Renameexport (text_of key) onto.now
host_shown (ValueMsg value) = Value value.now
host_shown (CredsMsg user password) = Creds user.now password.now
host_shown (HostErrorMsg text) = HostError text.now

abbrev pub params_shown : Parameters → List Param
params_shown BareParams = []
params_shown (NumberParams number) = Number number ∷ []
params_shown (KeyParams key) = Key (text_of key) ∷ []
params_shown (RestParams rest) = Rest rest.now ∷ []
params_shown (ScopeParams global) = Scope global ∷ []
params_shown (WordRestParams word rest) = Word word.now ∷ Rest rest.now ∷ []
params_shown (WordsRestParams first second rest) = Word first.now ∷ Word second.now ∷ Rest rest.now ∷ []
params_shown (KeyRestParams key rest) = Key (text_of key) ∷ Rest rest.now ∷ []
params_shown (TransferParams store key) = Direction store ∷ Key (text_of key) ∷ []
params_shown (TransferRestParams store key rest) = Direction store ∷ Key (text_of key) ∷ Rest rest.now ∷ []
