-- Comparison of names.
use Rattle.std.proofs.Common.{◌≡◌, true, eqb, ◌&&◌}
use Rattle.std.proofs.lemmas.Bool.{eqb-true, and_parts}
use Rattle.source.specs.declared.place.Place.{Place}
use Rattle.source.specs.declared.token.Span.{Span}

index_same : (a b : Place) → (eqb a.line b.line && eqb a.col b.col) ≡ true → a ≡ b
index_same a b h =
    let parts = and_parts _ _ h in
    let line = eqb-true a.line b.line parts.0 in
    let col = eqb-true a.col b.col parts.1 in
    λ i. record { line = line i; col = col i }

pub span_same : (a b : Span) → (eqb a.start b.start && (eqb a.end b.end && (eqb a.place.line b.place.line && eqb a.place.col b.place.col))) ≡ true → a ≡ b
span_same a b h =
    let parts = and_parts _ _ h in
    let rest = and_parts _ _ parts.1 in
    let start = eqb-true a.start b.start parts.0 in
    let end = eqb-true a.end b.end rest.0 in
    let place = index_same a.place b.place rest.1 in
    λ i. record { start = start i; end = end i; place = place i }
