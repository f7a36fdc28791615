use Rattle.std.proofs.Common.{◌≡◌, ◌<◌, ◌≤◌, ◌∙◌, List, ℕ, ap, arith, get_or, length, refl, subst, sym, false, true, ◌+◌}
use Rattle.elf_model.specs.Link.Loading.{is_global_or_weak}
use Rattle.elf_model.specs.Inputs.ObjectFile.{name_of_symbol, null_symbol, symbols}
use Rattle.elf_model.specs.declared.records.Symbol.{Symbol}
use Rattle.search.specs.Numbers.{AreFirstNumbers}
use Rattle.search.specs.declared.loaded.TheConstants.{NO_NUMBER}
use Rattle.search.proofs.NameSets.{begins_trans, begins_with}
use Rattle.search.proofs.NotedNames.{asked_all, asked_past, asked_step, called_there, defined_all, defined_past, defined_step}
use Rattle.search.proofs.NumberedSymbols.{local_number, numbers_grow, numbers_more, shared_number}
use Rattle.search.proofs.loader.Names.note_all.Goals as goal

pub loop-j-preserved-then-not-is_global_or_weak : goal.loop-j-preserved-then-not-is_global_or_weak
loop-j-preserved-then-not-is_global_or_weak g c =
    let bytes = c.args.object.now in
    let items = c.symbols-symbols.result.now in
    let ss = symbols bytes in
    let within = subst (λ n. c.loop-j.j < n) c.len-j-end.ensures c.loop-j-test.true in
    let local = ap is_global_or_weak (sym c.at-symbol.ensures) ∙ sym c.is_global_or_weak.ensures ∙ c.if-not-is_global_or_weak.true in record {
      noted = c.loop-j.invariant.noted;
      requested = λ n. asked_past bytes c.args.dropped.now items ss c.symbols-symbols.ensures c.loop-j.j null_symbol within n _ _ local (c.loop-j.invariant.requested n);
      grows = c.loop-j.invariant.grows;
      defined = λ n. defined_past bytes c.args.dropped.now items ss c.symbols-symbols.ensures c.loop-j.j null_symbol within n _ _ local (c.loop-j.invariant.defined n);
      added = c.loop-j.invariant.added;
      numbered = subst (AreFirstNumbers (c.loop-j.j + 1) _ bytes) (sym c.in_ok-push.ensures.items)
          (numbers_more (g.N.NameNumbers.names c.loop-j.self.numbers) bytes c.loop-j.numbers.items c.loop-j.j NO_NUMBER c.loop-j.invariant.numbered
          (local_number (g.N.NameNumbers.names c.loop-j.self.numbers) bytes (get_or ss c.loop-j.j null_symbol)
          (subst (λ (l : List Symbol). is_global_or_weak (get_or l c.loop-j.j null_symbol) ≡ false) c.symbols-symbols.ensures local)));
    }

pub loop-j-preserved : goal.loop-j-preserved
loop-j-preserved g c =
    let bytes = c.args.object.now in
    let items = c.symbols-symbols.result.now in
    let ss = symbols bytes in
    let within = subst (λ n. c.loop-j.j < n) c.len-j-end.ensures c.loop-j-test.true in
    let called : c.symbol_name.result.now ≡ name_of_symbol bytes (get_or items c.loop-j.j null_symbol) =
    called_there bytes c.args.dropped.now items ss c.symbols-symbols.ensures c.loop-j.j null_symbol within c.symbol_name.result.now refl c.symbol_name.ensures in
    let shared = ap is_global_or_weak (sym c.at-symbol.ensures) ∙ sym c.is_global_or_weak.ensures ∙ c.if-not-is_global_or_weak.false in record {
      noted = c.in_ok-number.ensures.noted;
      requested = λ n. asked_step bytes c.args.dropped.now items ss c.symbols-symbols.ensures c.loop-j.j null_symbol within c.symbol_name.result.now n _ _ _ called (rw c.at-symbol.ensures at c.in_ok-number.ensures.requested n) (c.loop-j.invariant.requested n);
      grows = begins_trans _ _ _ c.loop-j.invariant.grows c.in_ok-number.ensures.grows;
      defined = λ n. defined_step bytes c.args.dropped.now items ss c.symbols-symbols.ensures c.loop-j.j null_symbol within c.symbol_name.result.now n _ _ _ called (rw c.at-symbol.ensures at c.in_ok-number.ensures.defined n) (c.loop-j.invariant.defined n);
      added = begins_trans _ _ _ c.loop-j.invariant.added (begins_with _ _ _ c.in_ok-number.ensures.added);
      numbered = subst (AreFirstNumbers (c.loop-j.j + 1) _ bytes) (sym c.in_ok-push-2.ensures.items)
          (numbers_more (g.N.NameNumbers.names c.note.new.self.numbers) bytes c.loop-j.numbers.items c.loop-j.j c.in_ok-number.number
          (numbers_grow c.loop-j.j _ _ bytes c.loop-j.numbers.items (begins_with _ _ _ c.in_ok-number.ensures.added) c.loop-j.invariant.numbered)
          (shared_number (g.N.NameNumbers.names c.note.new.self.numbers) bytes c.symbol_name.result.now (get_or ss c.loop-j.j null_symbol) c.in_ok-number.number
          (subst (λ (l : List Symbol). is_global_or_weak (get_or l c.loop-j.j null_symbol) ≡ true) c.symbols-symbols.ensures shared)
          (called ∙ ap (λ (l : List Symbol). name_of_symbol bytes (get_or l c.loop-j.j null_symbol)) c.symbols-symbols.ensures)
          c.in_ok-number.ensures.number c.in_ok-number.ensures.there));
    }

pub returns-clause-requested : goal.returns-clause-requested
returns-clause-requested g c = λ n.
    asked_all c.args.object.now c.args.dropped.now c.symbols-symbols.result.now (symbols c.args.object.now) c.loop-j.j n _ _ c.symbols-symbols.ensures (subst (λ m. m ≤ c.loop-j.j) c.len-j-end.ensures c.loop-j-test.false) (c.loop-j.invariant.requested n)

pub returns-clause-defined : goal.returns-clause-defined
returns-clause-defined g c = λ n.
    defined_all c.args.object.now c.args.dropped.now c.symbols-symbols.result.now (symbols c.args.object.now) c.loop-j.j n _ _ c.symbols-symbols.ensures (subst (λ m. m ≤ c.loop-j.j) c.len-j-end.ensures c.loop-j-test.false) (c.loop-j.invariant.defined n)

pub returns-clause-numbers : goal.returns-clause-numbers
returns-clause-numbers g c =
    let all : c.loop-j.j ≡ length c.symbols-symbols.result.now = omega (arith, c.loop-j-test.false, c.loop-j.auto.j-end, c.len-j-end.ensures) in
    subst (λ (n : ℕ). AreFirstNumbers n (g.N.NameNumbers.names c.loop-j.self.numbers) c.args.object.now c.loop-j.numbers.items)
    (all ∙ ap (λ (l : List Symbol). length l) c.symbols-symbols.ensures) c.loop-j.invariant.numbered
