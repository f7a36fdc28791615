use Rattle.std.proofs.Common.{◌≡◌, ◌∙◌, ◌||◌, ℕ, List, Bool, Option, Some, None, ap, cond, true, false, refl}
use Rattle.std.specs.Prelude.{is_some}
use Rattle.elf_model.specs.Link.LinkerNames.{is_start_name, is_stop_name, output_bound}
use Rattle.elf_model.specs.declared.bound.Bound.{Bound}
use Rattle.elf_model.specs.declared.bound.Bound.TheVariants.{OutputEnd, OutputStart}
use Rattle.symbol_judge.proofs.made_names.is_of_output.Goals as goal

either : (a b : Bool) (x y : Bound) → is_some (cond a (Some x) (cond b (Some y) None)) ≡ (a || b)
either true b x y = refl
either false true x y = refl
either false false x y = refl

told : (name : List ℕ) → is_some (output_bound name) ≡ (is_start_name name || is_stop_name name)
unfolding output_bound
told name = either (is_start_name name) (is_stop_name name) OutputStart OutputEnd

pub returns : goal.returns
returns c = c.is_some.ensures ∙ (ap (λ (o : Option Bound). is_some o) c.output_bound.ensures ∙ told c.args.name.now)
