-- Document 01, 'SDO', and ticket 1: what a request asks, by its command byte.
-- Assumes nothing.
use Rattle.std.specs.Prelude.{ℕ, List, cond, eqb}
use Rattle.state.specs.declared.State.{State}
use Rattle.rules_dictionary.specs.Numbers.{bit, bits, bytes}
use Rattle.rules_dictionary.specs.Table.{Found, found, the_name, no_object as missing, no_subindex as missing_subindex}
use Rattle.rules_dictionary.specs.Values.{read}
use Rattle.rules_dictionary.specs.Aborts.{unknown_command, no_object, no_subindex}
use Rattle.rules_services.specs.declared.SdoCommand.{SdoCommand}
use Rattle.rules_services.specs.declared.SdoCommand.TheVariants.{Download, DownloadBySegments, DownloadSegment, Upload, UploadSegment}
use Rattle.rules_services.specs.declared.SdoCommand.TheVariants.{ClientAbort, Unknown}
use Rattle.rules_services.specs.Effects.{Effect, becomes, sends, without_transfer}
use Rattle.rules_services.specs.Sdo.{command_byte, object_of, sought, data_size, expedited, reply, downloaded, uploaded, abort, downloads}
use Rattle.rules_services.specs.Segments.{name_asked, segment_asked, download_begun, segment_sent}

-- ---- the command byte

-- bits 7-5
abbrev pub command_number : ℕ → ℕ
command_number c = bits 5 8 c

-- "Command bits 7-5: 1 download, 2 upload, 4 client abort (no reply), else abort 05040001h"; the segments have 0 and 3
abbrev pub download_segment_number : ℕ
download_segment_number = 0

abbrev pub download_number : ℕ
download_number = 1

abbrev pub upload_number : ℕ
upload_number = 2

abbrev pub upload_segment_number : ℕ
upload_segment_number = 3

abbrev pub client_abort_number : ℕ
client_abort_number = 4

-- download: the transfer is expedited; "bit 1 zero in an initiate is no longer refused"
abbrev pub expedited_bit : ℕ
expedited_bit = 1

unfoldable pub command_of : ℕ → SdoCommand
command_of c =
    let k = command_number c in
    cond (eqb k download_segment_number) DownloadSegment
    (cond (eqb k download_number) (cond (bit expedited_bit c) Download DownloadBySegments)
    (cond (eqb k upload_number) Upload
    (cond (eqb k upload_segment_number) UploadSegment (cond (eqb k client_abort_number) ClientAbort Unknown))))

-- ---- an upload

unfoldable pub uploads : List ℕ → Found → State → List ℕ → Effect
uploads o (found x) s d = sends (reply (uploaded x.type) o s (bytes data_size (read d x))) (becomes s)
uploads o the_name s d = name_asked o s
uploads o missing s d = abort no_object o s
uploads o missing_subindex s d = abort no_subindex o s

-- ---- the request: "A new initiate, any abort .. ends a running transfer"

unfoldable pub asked : SdoCommand → List ℕ → State → List ℕ → Effect
asked Download rq s d =
    downloads (reply downloaded (object_of rq) s (bytes data_size 0)) (object_of rq) (expedited rq) (sought (object_of rq)) (without_transfer s) d
asked DownloadBySegments rq s d = download_begun (object_of rq) s
asked DownloadSegment rq s d = segment_sent s.transfer rq s d
asked Upload rq s d = uploads (object_of rq) (sought (object_of rq)) (without_transfer s) d
asked UploadSegment rq s d = segment_asked s.transfer rq s
asked ClientAbort rq s d = becomes (without_transfer s)
asked Unknown rq s d = abort unknown_command (object_of rq) (without_transfer s)

unfoldable pub sdo : List ℕ → State → List ℕ → Effect
sdo rq s d = asked (command_of (command_byte rq)) rq s d

-- opens every definition of this module, where a proof computes
unfoldable pub open_sdo_server : Unit {0}
unfolding command_of uploads asked sdo
open_sdo_server = tt
