use Rattle.std.proofs.Common.{◌≡◌, ◌∙◌, rules, arith, length}
use Rattle.std.specs.Vec.{vec_len}
use Rattle.std.proofs.lemmas.List.{length-set}
use Rattle.search.proofs.Numbering.{definition_keeps, definition_noted, mention_inside}
use Rattle.search.proofs.loader.Names.define.Goals as goal

pub index_mut-requires : goal.index_mut-requires
index_mut-requires g c =
    let same_len : vec_len c.args.self.now.mentions ≡ length c.args.self.now.mentions.items = search rules in
    omega (arith, same_len, mention_inside (g.N.NameNumbers.names c.args.self.now.numbers) c.args.self.now.mentions.items c.args.name.now c.args.number c.requires.noted.sized c.requires.there c.requires.number)

pub returns-clause-noted : goal.returns-clause-noted
returns-clause-noted g c = record {
  sized = length-set _ _ _ ∙ c.requires.noted.sized;
  asked = λ n.
      definition_keeps (g.N.NameNumbers.names c.args.self.now.numbers) c.args.self.now.mentions.items c.args.name.now c.args.number c.requires.noted.sized c.requires.there c.requires.number c.index_mut.result.now n c.index_mut.ensures.value
      ∙ c.requires.noted.asked n;
}

pub returns-clause-defined : goal.returns-clause-defined
returns-clause-defined g c = λ n.
    definition_noted (g.N.NameNumbers.names c.args.self.now.numbers) c.args.self.now.mentions.items c.args.name.now c.args.number c.requires.noted.sized c.requires.there c.requires.number c.index_mut.result.now n c.index_mut.ensures.value
