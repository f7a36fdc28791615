use Rattle.std.proofs.Common.{◌≡◌, ◌≢◌, ◌∙◌, ℕ, rules, List, ap, length, sym}
use Rattle.std.specs.Global.{Vec}
use Rattle.std.specs.Vec.{vec_len}
use Rattle.search.specs.Mentions.{mention_of}
use Rattle.search.specs.Names.{number_of}
use Rattle.search.specs.declared.loader.Mention.{Mention}
use Rattle.search.proofs.NameSets.{among_new}
use Rattle.search.proofs.Numbering.{known_names, new_mention, new_sized, number_with}
use Rattle.search.proofs.loader.Names.number.Goals as goal

-- a number that is the count of mentions is that of a name which none of them has, and another one is not
is_last :
    (ms : Vec Mention) (ns : List (List ℕ)) (name : List ℕ) (number len : ℕ) → number ≡ number_of ns name → len ≡ vec_len ms → number ≡ len →
    number_of ns name ≡ length ms.items
is_last ms ns name number len is counted last = let same_len : vec_len ms ≡ length ms.items = search rules in sym is ∙ (last ∙ (counted ∙ same_len))

is_other :
    (ms : Vec Mention) (ns : List (List ℕ)) (name : List ℕ) (number len : ℕ) → number ≡ number_of ns name → len ≡ vec_len ms → number ≢ len →
    number_of ns name ≢ length ms.items
is_other ms ns name number len is counted other =
    let same_len : vec_len ms ≡ length ms.items = search rules in
    λ last. other (is ∙ (last ∙ (sym same_len ∙ sym counted)))

pub returns-in_ok-push-clause-noted : goal.returns-in_ok-push-clause-noted
returns-in_ok-push-clause-noted g c =
    let ns = g.N.NameNumbers.names c.args.self.now.numbers in
    let new = g.N.NameNumbers.names c.add.new.self in
    let last = is_last c.args.self.now.mentions ns c.args.name.now _ _ c.in_ok-number.ensures.number c.len.ensures c.if-number-len.true in record {
      sized = new_sized ns new c.args.name.now c.args.self.now.mentions.items c.in_ok-number.ensures.added c.requires.sized c.push.new.self.items c.in_ok-push.ensures.items last;
      asked = λ n.
          ap (λ (m : Mention). m.requested) (new_mention ns new c.args.name.now c.args.self.now.mentions.items c.in_ok-number.ensures.added c.requires.sized c.push.new.self.items c.in_ok-push.ensures.items last n)
          ∙ c.requires.asked n;
    }

pub returns-in_ok-push-clause-number : goal.returns-in_ok-push-clause-number
returns-in_ok-push-clause-number g c =
    let ns = g.N.NameNumbers.names c.args.self.now.numbers in
    c.in_ok-number.ensures.number ∙ (sym (number_with ns c.args.name.now) ∙ ap (λ (l : List (List ℕ)). number_of l c.args.name.now) (sym c.in_ok-number.ensures.added))

pub returns-in_ok-push-clause-defined : goal.returns-in_ok-push-clause-defined
returns-in_ok-push-clause-defined g c =
    let ns = g.N.NameNumbers.names c.args.self.now.numbers in
    let new = g.N.NameNumbers.names c.add.new.self in
    let last = is_last c.args.self.now.mentions ns c.args.name.now _ _ c.in_ok-number.ensures.number c.len.ensures c.if-number-len.true in
    λ n. ap (λ (m : Mention). m.defined) (new_mention ns new c.args.name.now c.args.self.now.mentions.items c.in_ok-number.ensures.added c.requires.sized c.push.new.self.items c.in_ok-push.ensures.items last n)

pub returns-else-number-len-clause-noted : goal.returns-else-number-len-clause-noted
returns-else-number-len-clause-noted g c =
    let ns = g.N.NameNumbers.names c.args.self.now.numbers in
    let new = g.N.NameNumbers.names c.add.new.self in
    let other = is_other c.args.self.now.mentions ns c.args.name.now _ _ c.in_ok-number.ensures.number c.len.ensures c.if-number-len.false in
    let same = known_names ns new c.args.name.now c.args.self.now.mentions.items c.in_ok-number.ensures.added c.requires.sized other in record {
      sized = c.requires.sized ∙ ap (λ (l : List (List ℕ)). length l) (sym same);
      asked = λ n. ap (λ (l : List (List ℕ)). (mention_of l c.args.self.now.mentions.items n).requested) same ∙ c.requires.asked n;
    }

pub returns-else-number-len-clause-number : goal.returns-else-number-len-clause-number
returns-else-number-len-clause-number g c =
    let ns = g.N.NameNumbers.names c.args.self.now.numbers in
    c.in_ok-number.ensures.number ∙ (sym (number_with ns c.args.name.now) ∙ ap (λ (l : List (List ℕ)). number_of l c.args.name.now) (sym c.in_ok-number.ensures.added))

pub returns-else-number-len-clause-defined : goal.returns-else-number-len-clause-defined
returns-else-number-len-clause-defined g c =
    let ns = g.N.NameNumbers.names c.args.self.now.numbers in
    let new = g.N.NameNumbers.names c.add.new.self in
    let other = is_other c.args.self.now.mentions ns c.args.name.now _ _ c.in_ok-number.ensures.number c.len.ensures c.if-number-len.false in
    λ n. ap (λ (l : List (List ℕ)). (mention_of l c.args.self.now.mentions.items n).defined) (known_names ns new c.args.name.now c.args.self.now.mentions.items c.in_ok-number.ensures.added c.requires.sized other)

pub returns-in_ok-push-clause-there : goal.returns-in_ok-push-clause-there
returns-in_ok-push-clause-there g c = among_new (g.N.NameNumbers.names c.args.self.now.numbers) (g.N.NameNumbers.names c.add.new.self) c.args.name.now c.in_ok-number.ensures.added

pub returns-else-number-len-clause-there : goal.returns-else-number-len-clause-there
returns-else-number-len-clause-there g c = among_new (g.N.NameNumbers.names c.args.self.now.numbers) (g.N.NameNumbers.names c.add.new.self) c.args.name.now c.in_ok-number.ensures.added
