-- The program of `Exchanges` is well formed.
use Rattle.std.proofs.Common.{◌≡◌, ◌<◌, ◌≤◌, ◌∙◌, ℕ, zero, suc, false, true≢false, List, [], ◌∷◌, ◌++◌, Some, None, length, map, slice_get, refl, sym, ap, subst, arith}
use Rattle.std.specs.Prelude.{IfSome}
use Rattle.std.specs.Global.{Vec}
use Rattle.program.specs.Methods.{MethodModel, VariableModel, method_model}
use Rattle.program.specs.Programs.{ProgramModel, program_model, type_lists}
use Rattle.program.specs.Scopes.{Grows}
use Rattle.program.specs.Statements.{statement_sequence}
use Rattle.program.specs.WellFormed.{AreStatements, AreWellFormed, Setting, in_loop, is_parameter, with_last, setting}
use Rattle.program.specs.declared.contract.Contract.{Contract}
use Rattle.program.specs.declared.limits.TheConstants.{MOST_METHODS}
use Rattle.program.specs.declared.types.HeapType.{HeapType}
use Rattle.program.specs.declared.method.Method.{Method}
use Rattle.acceptance_methods.specs.Exchanges.{deletes, exchange, method, new, structs}
use Rattle.rules.proofs.TransferLemmas.{none_some, one_some}

nested_at : (n : ℕ) (v : VariableModel) → slice_get method.variables n ≡ Some v → IfSome v.outer (λ o. o.0 < n)
nested_at zero v there = subst (λ (x : VariableModel). IfSome x.outer (λ o. o.0 < 0)) (one_some _ v there) tt
nested_at (suc zero) v there = subst (λ (x : VariableModel). IfSome x.outer (λ o. o.0 < 1)) (one_some _ v there) (omega arith)
nested_at (suc (suc n)) v there = absurd (none_some v there)

local_at : (n : ℕ) (v : VariableModel) → slice_get method.variables n ≡ Some v → is_parameter v.role ≡ false
local_at zero v there = subst (λ (x : VariableModel). is_parameter x.role ≡ false) (one_some _ v there) refl
local_at (suc zero) v there = subst (λ (x : VariableModel). is_parameter x.role ≡ false) (one_some _ v there) refl
local_at (suc (suc n)) v there = absurd (none_some v there)

-- both variables stay in scope
stays : Grows method.variables (Some record { 0 = 1 }) (Some record { 0 = 1 })
stays = record { count = 0; by = refl }

abbrev program : ProgramModel
program = record { contracts = []; messages = []; structs = structs; methods = method ∷ [] }

-- the setting of the statements in the loop
abbrev inside : Setting
inside = in_loop (with_last (setting program method None) (Some record { 0 = 1 }))

turn : AreStatements inside (statement_sequence (new 0 [] ∷ exchange ∷ deletes 0 ∷ [])) (Some record { 0 = 1 })
turn = (
  Some record { 0 = 1 },
  (
    stays,
    (
      record { reads = tt; in_scope = record { steps = 1; is = refl }; taken = (refl, tt) },
      (
        Some record { 0 = 1 },
        (
          stays,
          (
            (tt, (record { steps = 1; is = refl }, refl)),
            (Some record { 0 = 1 }, (stays, ((tt, omega arith), stays))),
          ),
        ),
      ),
    ),
  ),
)

is_well_formed : AreWellFormed program
is_well_formed = record {
  messages_are = tt;
  structs_are = (record { few = omega arith; types_are = tt }, (record { few = omega arith; types_are = (tt, tt) }, tt));
  methods_are = (
    record {
      result = tt;
      void = λ e. refl;
      types = (tt, (tt, tt));
      few = omega arith;
      nested = record { all = nested_at };
      begins = None;
      begins_with = tt;
      parameters = λ n v there is. absurd (true≢false (sym is ∙ local_at n.0 v there));
      statements = (
        Some record { 0 = 0 },
        (
          record { count = 1; by = (refl, refl) },
          (
            record { reads = tt; in_scope = record { steps = 0; is = refl }; taken = (refl, tt) },
            (
              Some record { 0 = 1 },
              (
                record { count = 1; by = (refl, refl) },
                (
                  record { reads = tt; in_scope = record { steps = 0; is = refl }; taken = (refl, (refl, tt)) },
                  (
                    Some record { 0 = 1 },
                    (
                      stays,
                      (
                        (tt, (Some record { 0 = 1 }, (turn, refl))),
                        (Some record { 0 = 1 }, (stays, ((tt, omega arith), stays))),
                      ),
                    ),
                  ),
                ),
              ),
            ),
          ),
        ),
      );
    },
    tt,
  );
}

-- the same for the program in memory
pub made_well_formed : (contracts : List Contract) (messages fields : List (Vec HeapType)) (methods : List Method) → contracts ≡ [] → messages ≡ [] → type_lists fields ≡ structs
    → map method_model methods ≡ method ∷ [] → AreWellFormed (program_model (contracts, type_lists messages, type_lists fields, methods))
made_well_formed contracts messages fields methods no_contract no_message told is =
    subst (λ (cs : List Contract). AreWellFormed (program_model (cs, type_lists messages, type_lists fields, methods))) (sym no_contract)
    (subst (λ (ms : List (Vec HeapType)). AreWellFormed (program_model ([], type_lists ms, type_lists fields, methods))) (sym no_message)
    (subst (λ (ks : List (List HeapType)). AreWellFormed (program_model ([], [], ks, methods))) (sym told)
    (subst (λ (ms : List MethodModel). AreWellFormed (record { contracts = []; messages = []; structs = structs; methods = ms })) (sym is) is_well_formed)))

-- the list has the one method
pub one_method : (old all : List Method) (m : Method) → old ≡ [] → all ≡ old ++ m ∷ [] → method_model m ≡ method → map method_model all ≡ method ∷ []
one_method old all m none is seen = ap (map method_model) (is ∙ ap (λ l. l ++ m ∷ []) none) ∙ ap (λ s. s ∷ []) seen

pub one_is_few : (old all : List Method) (m : Method) → old ≡ [] → all ≡ old ++ m ∷ [] → length all ≤ MOST_METHODS
one_is_few old all m none is = omega (arith, ap length (is ∙ ap (λ l. l ++ m ∷ []) none))
