-- What the server prints, and how it ends.
use Rattle.std.specs.Prelude.{◌≡◌, ◌⊎◌, ℕ, Bool, true, false, List, [], ◌++◌, codes, flat_map, Option, Result, Ok, Err, ⊤}
use Rattle.std.specs.Fmt.{decimal}
use Rattle.std.specs.Io.KnownBytes.{Appends}
use Rattle.clap.specs.Words.{Kinds, IsAmong}
use Rattle.clap.specs.declared.error.kind.ErrorKind.{ErrorKind}
use Rattle.clap.specs.declared.error.kind.ErrorKind.TheVariants as kind
use Rattle.cg_disk.specs.Disk.{Image}
use Rattle.cg_engine.specs.Loads.{IsFound}
use Rattle.cg_server.specs.declared.status.Status.{Status}
use Rattle.cg_server.specs.declared.version.TheConstants.{VERSION}
use Rattle.cg_server.specs.declared.stop.TheConstants.{STATUS_CLOSED, STATUS_DISK, STATUS_NET, STATUS_USAGE}
use Rattle.cg_server.specs.declared.stop.Stop.{Stop}
use Rattle.cg_server.specs.declared.stop.Stop.TheVariants as stop
use Rattle.cg_server.specs.declared.stop.ServerEnd.{ServerEnd}
use Rattle.cg_server.specs.declared.stop.ServerEnd.TheVariants as end

-- a line that reports a fault
abbrev pub fault_line : List ℕ → List ℕ
fault_line name = codes "FAULT " ++ name ++ codes "\n"

-- what is printed when the server ends early
abbrev pub stop_text : Stop → List ℕ
stop_text stop.File = fault_line (codes "File")
stop_text stop.Memory = fault_line (codes "Memory")
stop_text stop.Device = fault_line (codes "Device")
stop_text stop.NoRoot = fault_line (codes "NoRoot")
stop_text stop.BadRoot = fault_line (codes "BadRoot")
stop_text stop.BadFrame = fault_line (codes "BadFrame")
stop_text stop.BadRecord = fault_line (codes "BadRecord")
stop_text stop.Loaded = fault_line (codes "Loaded")
stop_text stop.Clock = fault_line (codes "Clock")
stop_text stop.Net = fault_line (codes "Net")
stop_text stop.Write = []

-- the exit status of a server that ends early
abbrev pub status_of : Stop → ℕ
status_of stop.File = STATUS_DISK
status_of stop.Memory = STATUS_DISK
status_of stop.Device = STATUS_DISK
status_of stop.NoRoot = STATUS_DISK
status_of stop.BadRoot = STATUS_DISK
status_of stop.BadFrame = STATUS_DISK
status_of stop.BadRecord = STATUS_DISK
status_of stop.Loaded = STATUS_DISK
status_of stop.Clock = STATUS_DISK
status_of stop.Net = STATUS_NET
status_of stop.Write = STATUS_NET

-- the line for an address that is listened on
abbrev pub listening_text : List ℕ → List ℕ
listening_text address = codes "LISTENING " ++ address ++ codes "\n"

-- how many commands, group records and offsets a load found
abbrev pub loaded_text : ℕ × ℕ × ℕ → List ℕ
loaded_text found = codes "LOADED " ++ decimal found.0 ++ codes " " ++ decimal found.1 ++ codes " " ++ decimal found.2 ++ codes "\n"

-- a status: the groups, and what they have; the clients, and what they asked for; the room of the log; what was done
abbrev pub groups_text : Status → List ℕ
groups_text s = codes "STATUS groups=" ++ (decimal s.groups ++ (codes " members=" ++ (decimal s.members ++ (codes " offsets=" ++ (decimal s.offsets ++ codes " ")))))

abbrev pub requests_text : Status → List ℕ
requests_text s = codes "connections=" ++ (decimal s.connections ++ (codes " pending=" ++ (decimal s.pending ++ (codes " settled=" ++ (decimal s.settled ++ codes " ")))))

abbrev pub room_text : Status → List ℕ
room_text s = codes "free=" ++ (decimal s.free ++ (codes " of=" ++ (decimal s.of ++ (codes " compactions=" ++ (decimal s.compactions ++ codes " ")))))

abbrev pub done_text : Status → List ℕ
done_text s = codes "commits=" ++ (decimal s.commits ++ (codes " seconds=" ++ (decimal s.seconds ++ codes "\n")))

abbrev pub status_text : Status → List ℕ
status_text s = ((groups_text s ++ requests_text s) ++ room_text s) ++ done_text s

-- the line of the version
abbrev pub version_text : List ℕ
version_text = codes "cg_server " ++ VERSION.now ++ codes "\n"

-- the number of the last stored command, at the end
abbrev pub closed_text : ℕ → List ℕ
closed_text front = codes "CLOSED " ++ decimal front ++ codes "\n"

-- `text` was printed; otherwise nothing was, unless a line could not be written
abbrev pub Prints : {T : Type 0} → Result T Stop → List ℕ → Option (List ℕ) → Option (List ℕ) → Type 0
Prints (Ok done) text old new = Appends old new text
Prints (Err cause) text old new = (cause ≡ stop.Write) ⊎ Appends old new []

-- something was printed, unless a line could not be written
abbrev pub Broke : Stop → Option (List ℕ) → Option (List ℕ) → Type 0
Broke cause old new = (cause ≡ stop.Write) ⊎ ((said : List ℕ) × Appends old new said)

-- lines of statuses
abbrev pub AreStatuses : List ℕ → Type 0
AreStatuses said = (statuses : List Status) × (said ≡ flat_map status_text statuses)

-- what is printed of a disk that fails after it was loaded, between statuses
abbrev pub IsAlarm : List ℕ → Type 0
IsAlarm said = (before after : List ℕ) × AreStatuses before × AreStatuses after × (said ≡ before ++ (stop_text stop.Device ++ after))

-- what is printed once the log is loaded, by how the server comes to its end: statuses, and a fault if the disk fails
abbrev pub IsNotice : ServerEnd → List ℕ → Type 0
IsNotice end.Over said = AreStatuses said ⊎ IsAlarm said
IsNotice end.Failed said = IsAlarm said

-- what is printed before the log is loaded: the address, if the server listens
abbrev pub Greets : Bool → List ℕ → Type 0
Greets true greeting = (address : List ℕ) × (greeting ≡ listening_text address)
Greets false greeting = greeting ≡ []

-- what is printed from the loading on: what was found, and notices
abbrev pub IsReport : ServerEnd → List ℕ → Type 0
IsReport end said = (found : ℕ × ℕ × ℕ) × (notice : List ℕ) × IsNotice end notice × (said ≡ loaded_text found ++ notice)

-- what is printed before the end
abbrev pub IsAccount : Bool → ServerEnd → List ℕ → Type 0
IsAccount listens end said = (greeting report : List ℕ) × Greets listens greeting × IsReport end report × (said ≡ greeting ++ report)

-- what was found was printed; otherwise nothing was, unless a line could not be written
abbrev pub Loads : {T : Type 0} → Result T Stop → Option (List ℕ) → Option (List ℕ) → Type 0
Loads (Ok done) old new = (found : ℕ × ℕ × ℕ) × Appends old new (loaded_text found)
Loads (Err cause) old new = (cause ≡ stop.Write) ⊎ Appends old new []

-- the numbers of the log in this content were printed
abbrev pub LoadsFrom : {T : Type 0} → Image → ℕ → Result T Stop → Option (List ℕ) → Option (List ℕ) → Type 0
LoadsFrom content sectors (Ok done) old new = (found : ℕ × ℕ × ℕ) × IsFound content sectors found × Appends old new (loaded_text found)
LoadsFrom content sectors (Err cause) old new = ⊤

-- the status was printed, or nothing, unless its line could not be written
abbrev pub TellsStatus : {T : Type 0} → Status → Result T Stop → Option (List ℕ) → Option (List ℕ) → Type 0
TellsStatus s (Ok done) old new = Appends old new (status_text s) ⊎ Appends old new []
TellsStatus s (Err cause) old new = cause ≡ stop.Write

-- statuses were printed, unless a line could not be written
abbrev pub TellsStatuses : {T : Type 0} → Result T Stop → Option (List ℕ) → Option (List ℕ) → Type 0
TellsStatuses (Ok done) old new = (said : List ℕ) × AreStatuses said × Appends old new said
TellsStatuses (Err cause) old new = cause ≡ stop.Write

-- that the disk failed was printed, and then statuses, unless a line could not be written
abbrev pub TellsFailure : {T : Type 0} → Result T Stop → Option (List ℕ) → Option (List ℕ) → Type 0
TellsFailure (Ok done) old new = (after : List ℕ) × AreStatuses after × Appends old new (stop_text stop.Device ++ after)
TellsFailure (Err cause) old new = cause ≡ stop.Write

-- notices were printed, unless a line could not be written
abbrev pub Alarms : Result ServerEnd Stop → Option (List ℕ) → Option (List ℕ) → Type 0
Alarms (Ok end) old new = (notice : List ℕ) × IsNotice end notice × Appends old new notice
Alarms (Err cause) old new = cause ≡ stop.Write

-- a report was printed; otherwise something was, unless a line could not be written
abbrev pub Reports : Result ServerEnd Stop → Option (List ℕ) → Option (List ℕ) → Type 0
Reports (Ok end) old new = (said : List ℕ) × IsReport end said × Appends old new said
Reports (Err cause) old new = Broke cause old new

-- a greeting and a report were printed; otherwise something was, unless a line could not be written
abbrev pub Serves : Bool → Result (ℕ × ServerEnd) Stop → Option (List ℕ) → Option (List ℕ) → Type 0
Serves listens (Ok served) old new = (said : List ℕ) × IsAccount listens served.1 said × Appends old new said
Serves listens (Err cause) old new = Broke cause old new

-- all that a server prints that comes to its end
abbrev pub PrintsAll : Bool → Option (List ℕ) → Option (List ℕ) → Type 0
PrintsAll listens old new = (said : List ℕ) × (front : ℕ) × IsAccount listens end.Over said × Appends old new (said ++ closed_text front)

-- all that a server prints whose disk failed, and which was to end then
abbrev pub PrintsFailure : Bool → Option (List ℕ) → Option (List ℕ) → Type 0
PrintsFailure listens old new = (said : List ℕ) × IsAccount listens end.Failed said × Appends old new said

-- all was printed; otherwise something was, unless a line could not be written
abbrev pub Closes : Bool → Result ServerEnd Stop → Option (List ℕ) → Option (List ℕ) → Type 0
Closes listens (Ok end.Over) old new = PrintsAll listens old new
Closes listens (Ok end.Failed) old new = PrintsFailure listens old new
Closes listens (Err cause) old new = Broke cause old new

-- only the cause was printed, unless a line could not be written
abbrev pub Refuses : Stop → ℕ → Option (List ℕ) → Option (List ℕ) → Type 0
Refuses cause status old new = ((status ≡ status_of cause) × Appends old new (stop_text cause)) ⊎ (status ≡ STATUS_NET)

-- something was printed, and last a cause that has this status
abbrev pub StopsEarly : ℕ → Option (List ℕ) → Option (List ℕ) → Type 0
StopsEarly status old new = (cause : Stop) × (said : List ℕ) × (status ≡ status_of cause) × Appends old new (said ++ stop_text cause)

-- the server came to its end, and printed all; its disk failed, and it printed that; it ended early; or a line could not be written
abbrev pub Ends : Bool → ℕ → Option (List ℕ) → Option (List ℕ) → Type 0
Ends listens status old new = ((status ≡ STATUS_CLOSED) × PrintsAll listens old new) ⊎ ((status ≡ STATUS_DISK) × PrintsFailure listens old new)
    ⊎ StopsEarly status old new ⊎ (status ≡ STATUS_NET)

-- the same of a server of which it is not said whether it listens
abbrev pub EndsSomehow : ℕ → Option (List ℕ) → Option (List ℕ) → Type 0
EndsSomehow status old new = (listens : Bool) × Ends listens status old new

-- the version was printed; otherwise that there is no memory for it was, unless a line could not be written
abbrev pub ShowsVersion : ℕ → Option (List ℕ) → Option (List ℕ) → Type 0
ShowsVersion status old new = ((status ≡ STATUS_CLOSED) × Appends old new version_text) ⊎ Refuses stop.Memory status old new

-- what words are refused for by this kind of error: there was no memory, the version was asked for, or nothing is printed
abbrev pub RefusesWords : ErrorKind → ℕ → Option (List ℕ) → Option (List ℕ) → Type 0
RefusesWords kind.OutOfMemory status old new = Refuses stop.Memory status old new
RefusesWords kind.DisplayVersion status old new = ShowsVersion status old new
RefusesWords other status old new = (status ≡ STATUS_USAGE) × (new ≡ old)

-- the words were refused for one of these kinds of error, or an allocation failed
abbrev pub IsRefused : Kinds → ℕ → Option (List ℕ) → Option (List ℕ) → Type 0
IsRefused kinds status old new = ((status ≡ STATUS_USAGE) × (new ≡ old)) ⊎ Refuses stop.Memory status old new ⊎ (IsAmong kind.DisplayVersion kinds × ShowsVersion status old new)
