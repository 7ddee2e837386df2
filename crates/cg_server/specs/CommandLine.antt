-- The command line, and what its words ask for.
use Rattle.std.specs.Prelude.{◌≡◌, ◌<◌, ◌^◌, ℕ, List, Option, None, Some, codes, true}
use Rattle.std.specs.Str.Parse.{IsNumeral, digits_value, without_leading_plus}
use Rattle.clap.specs.Walk.{first_of}
use Rattle.clap.specs.Words.{App, Kinds, Row, Rule, Text, fault_of, matches_of, new_app, new_rule, one_of, with_rule}
use Rattle.clap.specs.declared.builder.action.ArgAction.TheVariants as action
use Rattle.clap.specs.declared.builder.value_parser.ValueParser.TheVariants as parser
use Rattle.cg_gate.specs.declared.layout.TheConstants.{SEGMENTS_MAX}
use Rattle.cg_server.specs.Address.{port_of}
use Rattle.cg_server.specs.declared.address.TheConstants.{PORT_DEFAULT}
use Rattle.cg_server.specs.declared.command_line.Arguments.{Arguments}
use Rattle.cg_server.specs.declared.command_line.TheConstants.{COMPACT_FREE_DEFAULT, COMPACT_FREE_MAX, CONNECTIONS_MAX, SEGMENTS_DEFAULT, STATUS_SECONDS_DEFAULT, STATUS_SECONDS_MAX, TICK_MS_DEFAULT, TICK_MS_MAX, TICK_MS_MIN}

-- an option with a text
abbrev pub text_rule : Text → Rule
text_rule id = record (new_rule id) { long = Some id; value_names = 1 }

-- an option with a number in these bounds
abbrev pub number_rule : Text → ℕ → ℕ → Rule
number_rule id least most = record (text_rule id) { parser = Some (parser.Unsigned least most) }

-- an option without a value
abbrev pub flag_rule : Text → Rule
flag_rule id = record (new_rule id) { long = Some id; action = Some action.SetTrue }

abbrev pub listen_rule : Rule
listen_rule = text_rule (codes "listen")

abbrev pub disk_rule : Rule
disk_rule = text_rule (codes "disk")

abbrev pub format_rule : Rule
format_rule = flag_rule (codes "format")

abbrev pub overwrite_rule : Rule
overwrite_rule = flag_rule (codes "overwrite")

abbrev pub segments_rule : Rule
segments_rule = number_rule (codes "segments") 1 SEGMENTS_MAX

abbrev pub tick_rule : Rule
tick_rule = number_rule (codes "tick-ms") TICK_MS_MIN TICK_MS_MAX

abbrev pub compact_free_rule : Rule
compact_free_rule = number_rule (codes "compact-free") 0 COMPACT_FREE_MAX

abbrev pub connections_rule : Rule
connections_rule = number_rule (codes "connections") 0 CONNECTIONS_MAX

abbrev pub exit_rule : Rule
exit_rule = flag_rule (codes "exit-on-fault")

abbrev pub status_rule : Rule
status_rule = number_rule (codes "status-seconds") 0 STATUS_SECONDS_MAX

-- with the options that say where to listen and where the log is
abbrev pub with_place_rules : App → App
with_place_rules app = with_rule (with_rule (with_rule (with_rule app listen_rule) disk_rule) format_rule) overwrite_rule

-- with the options that have numbers
abbrev pub with_number_rules : App → App
with_number_rules app = with_rule (with_rule (with_rule (with_rule app segments_rule) tick_rule) compact_free_rule) connections_rule

-- with the options that say what the server reports
abbrev pub with_report_rules : App → App
with_report_rules app = with_rule (with_rule app exit_rule) status_rule

-- a program with a version, whose command line does not begin with its name
abbrev pub bare_app : App
bare_app = let named = new_app (codes "cg_server") in record named { top = record named.top { no_binary_name = true; has_version = true } }

-- a command line with these options
abbrev pub server_app : App
server_app = with_report_rules (with_number_rules (with_place_rules bare_app))

-- what clap refuses the words for; nothing, if it takes them
abbrev pub faults_of : List Text → Kinds
faults_of words = fault_of server_app words

-- the number that a text asks for; without a text it is the default
abbrev pub AsksFor : ℕ → Option Text → ℕ → Type 0
AsksFor default None number = number ≡ default
AsksFor default (Some text) number = let digits = without_leading_plus text in IsNumeral 10 digits → digits_value 10 digits < 2 ^ 64 → number ≡ digits_value 10 digits

-- the numbers of these arguments are those that are asked for, where a text is found for each option
abbrev pub HasNumbers : (Text → Option Text) → Arguments → Type 0
HasNumbers found arguments = AsksFor SEGMENTS_DEFAULT (found (codes "segments")) arguments.segments
    × AsksFor TICK_MS_DEFAULT (found (codes "tick-ms")) arguments.options.tick_ms
    × AsksFor COMPACT_FREE_DEFAULT (found (codes "compact-free")) arguments.options.compact_free
    × AsksFor STATUS_SECONDS_DEFAULT (found (codes "status-seconds")) arguments.options.status_seconds

-- the port that a text asks for; nothing, if it is no address on loopback
abbrev pub asked_port : Option Text → Option ℕ
asked_port None = Some PORT_DEFAULT
asked_port (Some text) = port_of text

-- what clap finds in words that it takes
unfoldable pub rows_in : List Text → List Row
rows_in words = matches_of server_app words

-- the port that the words ask for; nothing, if their address is not on loopback
abbrev pub port_in : List Text → Option ℕ
port_in words = asked_port (first_of (codes "listen") (rows_in words))

-- the numbers of these arguments are those that the words ask for
abbrev pub AreAsked : List Text → Arguments → Type 0
AreAsked words arguments = HasNumbers (λ id. one_of id (rows_in words)) arguments
