use Rattle.std.proofs.Common.{◌≡◌, ◌∙◌, ◌||◌, Bool, ℕ, rules, List, ap, arith, length, sym}
use Rattle.std.specs.Str.{bytes_eq}
use Rattle.std.specs.Vec.{vec_len}
use Rattle.std.proofs.lemmas.List.{length-set}
use Rattle.search.specs.Names.{is_among}
use Rattle.search.specs.declared.loader.Mention.{Mention}
use Rattle.search.proofs.NameSets.{among_pushed, or_known}
use Rattle.search.proofs.Numbering.{mention_inside, mention_read, request_keeps, request_noted}
use Rattle.search.proofs.loader.Names.request.Goals as goal

pub index-requires : goal.index-requires
index-requires g c =
    let same_len : vec_len c.args.self.now.mentions ≡ length c.args.self.now.mentions.items = search rules in
    omega (arith, same_len, mention_inside (g.N.NameNumbers.names c.args.self.now.numbers) c.args.self.now.mentions.items c.args.name.now c.args.number c.requires.noted.sized c.requires.there c.requires.number)

pub returns-then-index-clause-requested : goal.returns-then-index-clause-requested
returns-then-index-clause-requested g c = λ n.
    or_known (bytes_eq c.args.name.now n) (is_among c.args.self.now.requested n)
    (λ same.
    sym (c.requires.noted.asked n)
    ∙ (sym (ap (λ (m : Mention). m.requested)
    (mention_read (g.N.NameNumbers.names c.args.self.now.numbers) c.args.self.now.mentions.items c.args.name.now c.args.number c.requires.noted.sized c.requires.there c.requires.number c.index.result.now n c.index.ensures same))
    ∙ c.if-index.true))

pub index_mut-requires : goal.index_mut-requires
index_mut-requires g c =
    let same_len : vec_len c.args.self.now.mentions ≡ length c.args.self.now.mentions.items = search rules in
    omega (arith, same_len, mention_inside (g.N.NameNumbers.names c.args.self.now.numbers) c.args.self.now.mentions.items c.args.name.now c.args.number c.requires.noted.sized c.requires.there c.requires.number)

pub returns-clause-noted : goal.returns-clause-noted
returns-clause-noted g c =
    let ns = g.N.NameNumbers.names c.args.self.now.numbers in record {
      sized = length-set _ _ _ ∙ c.requires.noted.sized;
      asked = λ n.
          request_noted ns c.args.self.now.mentions.items c.args.name.now c.args.number c.requires.noted.sized c.requires.there c.requires.number c.index_mut.result.now n c.index_mut.ensures.value
          ∙ (ap (λ (b : Bool). bytes_eq c.args.name.now n || b) (c.requires.noted.asked n)
          ∙ sym (ap (λ (l : List (List ℕ)). is_among l n) c.in_ok-push.ensures ∙ among_pushed c.args.self.now.requested c.args.name.now n));
    }

pub returns-clause-requested : goal.returns-clause-requested
returns-clause-requested g c = λ n.
    ap (λ (l : List (List ℕ)). is_among l n) c.in_ok-push.ensures ∙ among_pushed c.args.self.now.requested c.args.name.now n

pub returns-clause-defined : goal.returns-clause-defined
returns-clause-defined g c = λ n.
    request_keeps (g.N.NameNumbers.names c.args.self.now.numbers) c.args.self.now.mentions.items c.args.name.now c.args.number c.requires.noted.sized c.requires.there c.requires.number c.index_mut.result.now n c.index_mut.ensures.value
