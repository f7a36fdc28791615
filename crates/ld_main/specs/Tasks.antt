-- What a run is to do, and which paths it has for that.
use Rattle.std.specs.Prelude.{◌≡◌, ℕ, List, Bool, false, true, IfSome, Some, Ok, option_map}
use Rattle.elf_model.specs.Inputs.Command as command
use Rattle.elf_model.specs.Inputs.Command.{command_of}
use Rattle.ld_main.specs.Program.{Names}
use Rattle.ld_main.specs.declared.writing.Outputs.{Outputs}
use Rattle.ld_main.specs.declared.program.Task.{Task}
use Rattle.ld_main.specs.declared.program.Task.TheVariants as task

-- the paths of outputs are those of a plan
pub record AreOutputsOf (p : command.Plan) (o : Outputs) : Type 0 where
  pub image : o.image.path.now ≡ p.output
  pub map : option_map (λ m. m.path.now) o.map ≡ p.map

-- a task is a check
abbrev pub is_check : Task → Bool
is_check (task.Link o) = false
is_check (task.Check image map) = true

-- a task is that of a plan: its paths are the plan's
abbrev pub IsTaskOf : command.Plan → Task → Type 0
IsTaskOf p (task.Link o) = (p.check ≡ false) × AreOutputsOf p o
IsTaskOf p (task.Check image map) = (p.check ≡ true) × (image.now ≡ p.output) × (p.map ≡ Some map.now)

-- the same of each plan that words are, which is one at most
abbrev pub IsTaskBy : List (List ℕ) → Task → Type 0
IsTaskBy words t = (p : command.Plan) → command_of words ≡ Ok p → IsTaskOf p t

-- the outputs of a link by words have their names
abbrev pub AreNamedBy : Names → List (List ℕ) → Type 0
AreNamedBy Named words = (p : command.Plan) → command_of words ≡ Ok p → Named p.output × IfSome p.map Named
