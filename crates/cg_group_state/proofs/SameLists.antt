-- Equal protocol lists, as a comparison of protocols finds them.
use Rattle.std.proofs.Common.{◌≡◌, ℕ, List, Bool, ap, ◌∙◌}
use Rattle.std.specs.Prelude.{Decides}
use Rattle.std.proofs.lemmas.Bool.Decides.{Decides-and, Decides-like}
use Rattle.std.proofs.lemmas.Slice.Eq.{bytes_eq-Decides, slice_eq-Decides}
use Rattle.cg_request.specs.declared.protocol.Protocol.{Protocol}
use Rattle.cg_group_state.specs.Membership.{is_same, is_same_protocol, are_same_protocols}

same_protocol : (p q : Protocol) → Decides (is_same_protocol p q) (p ≡ q)
same_protocol p q =
    let at : List ℕ → List ℕ → Protocol = λ name subscription. record { name = name; subscription = subscription } in
    Decides-like (is_same_protocol p q)
    (λ h. ap (λ name. at name p.subscription) h.0 ∙ ap (at q.name) h.1)
    (λ e. (ap (λ (r : Protocol). r.name) e, ap (λ (r : Protocol). r.subscription) e))
    (Decides-and (is_same p.name q.name) (is_same p.subscription q.subscription) (bytes_eq-Decides p.name q.name) (bytes_eq-Decides p.subscription q.subscription))

-- the comparison of two protocol lists decides whether they are equal
pub same_protocols : (ps qs : List Protocol) (r : Bool) → r ≡ are_same_protocols ps qs → Decides r (ps ≡ qs)
same_protocols = slice_eq-Decides same_protocol
