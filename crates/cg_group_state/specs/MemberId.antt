-- The id of a new member.
use Rattle.std.specs.Prelude.{ℕ, List, ◌∷◌, ◌++◌, unwrap_or}
use Rattle.uuid.specs.Text.{hyphenated_text, lower}
use Rattle.cg_request.specs.declared.request_fields.JoinRequest.{JoinRequest}

-- the beginning of a new member's id: its instance id, or else its client id
abbrev pub own_name : JoinRequest → List ℕ
own_name r = unwrap_or r.instance r.client

-- the id of a new member: that beginning, a dash, and the UUID in lower case with hyphens
unfoldable pub drawn : List ℕ → List ℕ → List ℕ
drawn name fresh = name ++ 45 ∷ hyphenated_text lower fresh
