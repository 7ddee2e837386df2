-- Addresses on loopback.
use Rattle.std.specs.Prelude.{ℕ, ◌==◌, Bool, List, Option, None, take, drop, codes, if◌then◌else◌}
use Rattle.std.specs.Cmp.Lexicographic.{pointwise}
use Rattle.std.specs.Net.Addr.{IsLoopbackV4, IsV4And}
use Rattle.std.specs.Net.Socket.{socket_ip}
use Rattle.std.specs.declared.net.socket_addr.SocketAddr.{SocketAddr}
use Rattle.cg_line.specs.Numbers.{number_of}
use Rattle.cg_server.specs.declared.address.TheConstants.{PORT_MAX}

-- the address is on loopback
abbrev pub IsOnLoopback : SocketAddr → Type 0
IsOnLoopback address = IsV4And (socket_ip address) IsLoopbackV4

-- the text begins with the loopback address and a colon
abbrev pub is_on_loopback : List ℕ → Bool
is_on_loopback text = pointwise (λ a b. a == b) (take 10 text) (codes "127.0.0.1:")

-- the port of an address on loopback: a decimal number without leading zeros
abbrev pub port_of : List ℕ → Option ℕ
port_of text = if is_on_loopback text then number_of PORT_MAX (drop 10 text) else None
