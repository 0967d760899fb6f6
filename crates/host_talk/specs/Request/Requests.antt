-- Requests, and the messages that ask them.
use Rattle.std.specs.Prelude.{ℕ, ◌||◌, Bool, true, false, List, Option, Some, None, bytes_eq, option_map}
use Rattle.std.specs.Str.{is_utf8}
use Rattle.annex_model.specs.Extensions.{names_of}
use Rattle.annex_model.specs.Messages.{HostMessage, AskExtensions, Prepare, Initremote, Transfer, Checkpresent, Remove, Listconfigs, Getcost, Getavailability, Getinfo, Whereis, Value, Creds, Exportsupported, Export, Transferexport, Checkpresentexport, Removeexport, Renameexport, HostError}
use Rattle.host_talk.specs.declared.request.request.Request.{Request}
use Rattle.host_talk.specs.declared.request.request.Request.TheVariants.{Extensions as ExtensionsRequest, Prepare as PrepareRequest, InitRemote as InitRemoteRequest, ListConfigs as ListConfigsRequest, GetCost as GetCostRequest, GetAvailability as GetAvailabilityRequest, GetInfo as GetInfoRequest, Transfer as TransferRequest, CheckPresent as CheckPresentRequest, Remove as RemoveRequest, WhereIs as WhereIsRequest, ExportSupported as ExportSupportedRequest, TransferExport as TransferExportRequest, CheckExport as CheckExportRequest, RemoveExport as RemoveExportRequest, RenameExport as RenameExportRequest}

abbrev pub message_of : Request → HostMessage
message_of (ExtensionsRequest offer) = AskExtensions (names_of offer)
message_of PrepareRequest = Prepare
message_of InitRemoteRequest = Initremote
message_of ListConfigsRequest = Listconfigs
message_of GetCostRequest = Getcost
message_of GetAvailabilityRequest = Getavailability
message_of GetInfoRequest = Getinfo
message_of (TransferRequest store key file) = Transfer store key file
message_of (CheckPresentRequest key) = Checkpresent key
message_of (RemoveRequest key) = Remove key
message_of (WhereIsRequest key) = Whereis key
message_of ExportSupportedRequest = Exportsupported
message_of (TransferExportRequest store key file name) = Transferexport store key file
message_of (CheckExportRequest key name) = Checkpresentexport key
message_of (RemoveExportRequest key name) = Removeexport key
message_of (RenameExportRequest key name onto) = Renameexport key onto

-- the name that is said before the message, where one is
abbrev pub name_of : Request → Option (List ℕ)
name_of (TransferExportRequest store key file name) = Some name
name_of (CheckExportRequest key name) = Some name
name_of (RemoveExportRequest key name) = Some name
name_of (RenameExportRequest key name onto) = Some name
name_of request = None

-- the message that says it
abbrev pub lead_of : Request → Option HostMessage
lead_of request = option_map Export (name_of request)

-- some request asks the message: it is no reply and no name, its names are those that a host tells, and files are named by text
abbrev pub is_request : HostMessage → Bool
is_request (AskExtensions names) = bytes_eq names (names_of true) || bytes_eq names (names_of false)
is_request (Transfer store key file) = is_utf8 file
is_request (Export name) = false
is_request (Transferexport store key file) = is_utf8 file
is_request (Renameexport key onto) = is_utf8 onto
is_request (Value value) = false
is_request (Creds user password) = false
is_request (HostError text) = false
is_request q = true
