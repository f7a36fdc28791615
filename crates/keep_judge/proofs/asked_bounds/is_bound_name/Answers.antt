use Rattle.std.proofs.Common.{◌≡◌, ◌∙◌, ◌||◌, ℕ, Bool, true, false, List, None, Option, Some, ap, cond, refl}
use Rattle.std.specs.Prelude.{is_some}
use Rattle.elf_model.specs.Link.LinkerNames.{is_start_name, is_stop_name, output_bound}
use Rattle.elf_model.specs.declared.bound.Bound.{Bound}
use Rattle.elf_model.specs.declared.bound.Bound.TheVariants.{OutputEnd, OutputStart}
use Rattle.judge_model.specs.Kept.{is_bound_name}
use Rattle.keep_judge.proofs.asked_bounds.is_bound_name.Goals as goal

abbrev bound_by : Bool → Bool → Option Bound
bound_by a b = cond a (Some OutputStart) (cond b (Some OutputEnd) None)

parts : (a b : Bool) → is_some (bound_by a b) ≡ (a || b)
parts true b = refl
parts false true = refl
parts false false = refl

bound_some : (name : List ℕ) → is_some (output_bound name) ≡ is_bound_name name
unfolding output_bound
bound_some name = parts (is_start_name name) (is_stop_name name)

pub returns : goal.returns
returns c = c.is_some.ensures ∙ (ap is_some c.output_bound.ensures ∙ bound_some c.args.name.now)
