use Rattle.std.proofs.Common.{rules, arith}
use Rattle.std.proofs.lemmas.Bool.{false≢true}
use Rattle.std.proofs.lemmas.Grind.{common_steps}
use Rattle.check_link.proofs.commons.is_sound.Goals as goal

pub returns-then-is_power_of_two : goal.returns-then-is_power_of_two
returns-then-is_power_of_two c = (
  λ small. record {
    binding_ = λ common. search rules;
    type_ = λ common. search rules;
    align = λ common. (c.is_power_of_two.ensures.0 c.if-is_power_of_two.true, grind (arith, common_steps, small));
  },
  λ sound. let a = sound.align (search rules) in grind (arith, common_steps, a),
)

pub returns-else-is_power_of_two : goal.returns-else-is_power_of_two
returns-else-is_power_of_two c = (
  λ power. absurd (false≢true (search rules)),
  λ sound. c.is_power_of_two.ensures.1 (sound.align (search rules)).0,
)
