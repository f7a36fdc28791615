-- The plan of another linker's command, of which the profile's part is known.
use Rattle.std.specs.Prelude.{◌≡◌, List, None, map}
use Rattle.elf_model.specs.Inputs.Command.{Plan}
use Rattle.judge_model.specs.Plans.{ForeignPlan}
use Rattle.judge_model.specs.Words.{Says, phrases_of, plan_said}
use Rattle.elf_model.specs.Inputs.Command.{plan_of_phrases}
use Rattle.foreign_words.specs.Says.{start_view}
use Rattle.foreign_words.specs.declared.wider.Wider.{Wider}

abbrev pub plan_with : Plan → Wider → ForeignPlan
plan_with p w = record {
  plan = p;
  collects = w.collects;
  tables = w.tables;
  takes_first = w.takes_first;
  writes_code = w.writes_code;
  executes_stack = w.executes_stack;
  features = w.features;
  segment = w.segment;
  starts = map start_view w.starts.items;
  strips = p.strip;
  strips_local = w.strips_local;
  script = None;
}

-- it is what words say beside the profile's part
abbrev pub IsWider : List Says → Wider → Type 0
IsWider ss w = plan_with (plan_of_phrases (phrases_of ss)) w ≡ plan_said ss
