use Rattle.std.proofs.Common.{◌≡◌, ◌≤◌, ◌∙◌, Bool, List, ℕ, ap, length, map, sym, subst, arith}
use Rattle.std.proofs.lemmas.List.{length-map}
use Rattle.std.specs.Prelude.{Vec}
use Rattle.std.specs.Global.{Global}
use Rattle.program.specs.declared.contract.Contract.{Contract}
use Rattle.program.specs.declared.contract.Edge.{Edge}
use Rattle.program.specs.declared.contract.Sign.{Sign}
use Rattle.program.specs.declared.contract.Sign.TheVariants.{Send, Receive}
use Rattle.program.specs.declared.limits.TheConstants.{MOST_STATES}
use Rattle.contracts.specs.Arcs.{EndsListed, IsDrawn}
use Rattle.contracts.specs.Drawings.{DrawsSign}
use Rattle.contracts.specs.Graphs.{groups}
use Rattle.contracts.specs.Rings.{AreRings}
use Rattle.contracts.specs.Parts.{IsWhole, contract_parts}
use Rattle.contracts.specs.Positions.{numbers_of}
use Rattle.contracts.proofs.PartLemmas.{ends_listed, few_numbers}
use Rattle.contracts.proofs.drawing.drawing_of.Goals as goal

-- a listing has no more states than a contract may have
few_listed : (contract : Contract) (numbers : List ℕ) → IsWhole (contract_parts contract) → numbers ≡ map (λ s. s.id.0) contract.states.items → length numbers ≤ MOST_STATES
few_listed contract numbers whole is =
    let few = few_numbers contract whole in
    let size = ap length is ∙ length-map contract.states.items (λ s. s.id.0) in
    omega (arith, few, size)

pub new-requires : goal.new-requires
new-requires c = record { few = few_listed c.args.contract.now (numbers_of c.states_of-states.result) c.requires.whole c.states_of-states.ensures; listed = subst (EndsListed (numbers_of c.states_of-states.result)) (sym c.deref.ensures.value) (ends_listed c.args.contract.now (numbers_of c.states_of-states.result) c.requires.whole c.states_of-states.ensures) }

pub new-requires-2 : goal.new-requires-2
new-requires-2 c = record { few = few_listed c.args.contract.now (numbers_of c.states_of-states.result) c.requires.whole c.states_of-states.ensures; listed = subst (EndsListed (numbers_of c.states_of-states.result)) (sym c.deref-2.ensures.value) (ends_listed c.args.contract.now (numbers_of c.states_of-states.result) c.requires.whole c.states_of-states.ensures) }

-- the graph of the edges between the positions that a listing gives is that of the contract
drawn_as : (contract : Contract) (numbers : List ℕ) (edges : List Edge) (sign : Sign) (graph : List (List ℕ)) → numbers ≡ map (λ s. s.id.0) contract.states.items → edges ≡ contract.edges.items → IsDrawn numbers edges (λ e. e.sign ≡ sign) graph → DrawsSign contract sign graph
drawn_as contract numbers edges sign graph is same h = subst (λ n. IsDrawn n contract.edges.items (λ e. e.sign ≡ sign) graph) is (subst (λ l. IsDrawn numbers l (λ e. e.sign ≡ sign) graph) same h)

pub bounds_of-requires : goal.bounds_of-requires
bounds_of-requires c =
    let contract = c.args.contract.now in
    let is = c.states_of-states.ensures in
    record {
      whole = c.requires.whole;
      sends = record {
        range = c.in_ok-sends.ensures.range;
        heights = c.in_ok-sends.ensures.heights;
        rings = c.in_ok-sends.ensures.rings;
        drawn = drawn_as contract (numbers_of c.states_of-states.result) c.deref.result.now Send (groups c.in_ok-sends.sends.groups) is c.deref.ensures.value c.in_ok-sends.ensures.drawn;
      };
      receives = record {
        range = c.in_ok-receives.ensures.range;
        heights = c.in_ok-receives.ensures.heights;
        rings = c.in_ok-receives.ensures.rings;
        drawn = drawn_as contract (numbers_of c.states_of-states.result) c.deref-2.result.now Receive (groups c.in_ok-receives.receives.groups) is c.deref-2.ensures.value c.in_ok-receives.ensures.drawn;
      };
    }

pub returns : goal.returns
returns c =
    let contract = c.args.contract.now in
    let is = c.states_of-states.ensures in
    record {
      sends = record {
        graph = groups c.in_ok-sends.sends.groups;
        drawn = drawn_as contract (numbers_of c.states_of-states.result) c.deref.result.now Send (groups c.in_ok-sends.sends.groups) is c.deref.ensures.value c.in_ok-sends.ensures.drawn;
        leaves = c.in_ok-into_marks.ensures.leaves;
        rings = subst (AreRings (groups c.in_ok-sends.sends.groups)) (sym (ap (λ (v : Vec Bool Global). v.items) c.in_ok-into_marks.ensures.rings)) c.in_ok-sends.ensures.rings;
      };
      receives = record {
        graph = groups c.in_ok-receives.receives.groups;
        drawn = drawn_as contract (numbers_of c.states_of-states.result) c.deref-2.result.now Receive (groups c.in_ok-receives.receives.groups) is c.deref-2.ensures.value c.in_ok-receives.ensures.drawn;
        leaves = c.in_ok-into_marks-2.ensures.leaves;
        rings = subst (AreRings (groups c.in_ok-receives.receives.groups)) (sym (ap (λ (v : Vec Bool Global). v.items) c.in_ok-into_marks-2.ensures.rings)) c.in_ok-receives.ensures.rings;
      };
      to_imp = c.in_ok-bounds.ensures.to_imp;
      to_exp = c.in_ok-bounds.ensures.to_exp;
    }
