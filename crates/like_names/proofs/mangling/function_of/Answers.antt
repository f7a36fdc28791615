use Rattle.std.proofs.Common.{◌∙◌}
use Rattle.like_names.proofs.Mangled.{spelled}
use Rattle.like_names.proofs.mangling.function_of.Goals as goal

pub returns : goal.returns
returns c =
    let split = c.in_ok-name.ensures.cases in (
      c.in_ok-name._parameters.now,
      spelled c.args.mangled.now c.in_ok-rest.rest.now c.as_bytes.result.now c.in_ok-names.names.now c.in_ok-name.name.now c.in_ok-name._parameters.now
          c.in_ok-len.len c.in_ok-rest.ensures c.in_ok-names.ensures (c.as_bytes.ensures.value ∙ c.format.ensures.text) split.1 split.2 split.3,
    )
