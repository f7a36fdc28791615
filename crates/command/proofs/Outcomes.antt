-- What the answer of a command's reader says, where it is the definition's value or want of memory.
use Rattle.std.proofs.Common.{◌≡◌, ◌≢◌, ℕ, List, Result, Ok, Err, IfOk, MatchResult, refl, ◌∙◌, sym}
use Rattle.elf_model.specs.declared.faults.CmdFault.{CmdFault}
use Rattle.elf_model.specs.declared.faults.CmdFault.TheVariants.{Memory, UnknownOption, MissingValue, BadNumber, GroupNesting, NoInput, NotArchiveInGroup}
use Rattle.elf_model.specs.Inputs.Command.{Plan, command_of, IsRefusal, HasPlan, IsBase, IsNamed}
use Rattle.command.proofs.Found.{found, same_ok}
use Rattle.command.proofs.Back.{back}
use Rattle.command.proofs.Facts.{base_holds, names_hold}

pub phrases_at : (words : List (List ℕ)) (r : Result Plan CmdFault) → command_of words ≡ r → IfOk r (HasPlan words)
phrases_at words (Ok p) e = found words p e
phrases_at words (Err f) e = tt

pub base_at : (words : List (List ℕ)) (r : Result Plan CmdFault) → command_of words ≡ r → IfOk r (λ p. IsBase p.base)
base_at words (Ok p) e = let h = found words p e in base_holds words h.0 p h.1
base_at words (Err f) e = tt

pub named_at : (words : List (List ℕ)) (r : Result Plan CmdFault) → command_of words ≡ r → IfOk r IsNamed
named_at words (Ok p) e = let h = found words p e in names_hold words h.0 p h.1
named_at words (Err f) e = tt

pub only_at : (words : List (List ℕ)) (r : Result Plan CmdFault) → command_of words ≡ r → (p : Plan) → HasPlan words p → MatchResult r (λ q. q ≡ p) (λ f. f ≡ Memory)
only_at words (Ok q) e p h = same_ok p q (sym (back words h.0 p h.1) ∙ e)
only_at words (Err f) e p h = let both : ◌≡◌ {A = Result Plan CmdFault} (Ok p) (Err f) = sym (back words h.0 p h.1) ∙ e in absurd cc

by_memory : (f : CmdFault) → (f ≢ Memory → ⊥) → f ≡ Memory
by_memory Memory h = refl
by_memory UnknownOption h = absurd (h (λ e. absurd cc))
by_memory MissingValue h = absurd (h (λ e. absurd cc))
by_memory BadNumber h = absurd (h (λ e. absurd cc))
by_memory GroupNesting h = absurd (h (λ e. absurd cc))
by_memory NoInput h = absurd (h (λ e. absurd cc))
by_memory NotArchiveInGroup h = absurd (h (λ e. absurd cc))

-- a refusal, where the words have a plan, is for want of memory
pub only_memory : (words : List (List ℕ)) (f : CmdFault) → IsRefusal words f → (p : Plan) → HasPlan words p → f ≡ Memory
only_memory words f r p h = by_memory f (λ m. let both : ◌≡◌ {A = Result Plan CmdFault} (Ok p) (Err f) = sym (back words h.0 p h.1) ∙ r m in absurd cc)
