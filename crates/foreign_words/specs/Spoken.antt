-- Words as they were read: their profile's part is a command of the profile, and all of it is what they ask for.
use Rattle.std.specs.Prelude.{ℕ, List}
use Rattle.elf_model.specs.Inputs.Command.{HasPlan, Plan, plan_of_phrases}
use Rattle.elf_model.specs.Inputs.Files.{words_of}
use Rattle.judge_model.specs.Words.{IsAsked, Says, phrases_of, plan_said}
use Rattle.foreign_words.specs.Wider.{IsWider}
use Rattle.foreign_words.specs.declared.spoken.Spoken.{Spoken}

pub record IsWhole (s : Spoken) : Type 0 where
  pub plan : Plan
  pub has : HasPlan (words_of s.words.items) plan

pub record IsSpokenBy (words : List (List ℕ)) (s : Spoken) : Type 0 where
  pub says : List Says
  pub asked : IsAsked words (plan_said says)
  pub has : HasPlan (words_of s.words.items) (plan_of_phrases (phrases_of says))
  pub wider : IsWider says s.wider
