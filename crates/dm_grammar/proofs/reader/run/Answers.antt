use Rattle.std.proofs.Common.{◌≡◌, ℕ, true, false, List, ◌≤◌, length, Some, sym, ◌∙◌, ap, arith}
use Rattle.std.proofs.lemmas.Bool.{eq-eqb, ne_eqb}
use Rattle.dm_grammar.specs.Determinism.{is_nullable}
use Rattle.dm_grammar.specs.declared.reader.Fault.TheVariants.{Syntax, Unsupported}
use Rattle.dm_grammar.specs.Meaning.{meaning}
use Rattle.dm_grammar.specs.Reading.{read_from}
use Rattle.dm_grammar.specs.Rests.{left}
use Rattle.dm_grammar.proofs.Prepend.{all-refused, all-unsupported, all-end, ReadSoFar-push, prepend}
use Rattle.dm_grammar.proofs.reader.run.Goals as goal

pub loop-at-init : goal.loop-at-init
loop-at-init g c = record {
  placed = ap length c.in_ok-roles.ensures.items;
  rest =
      ap (λ (z : List ℕ). prepend z (read_from g.C.Classes.has c.args.kinds.now (left c.in_ok-reader.reader))) c.in_ok-roles.ensures.items
      ∙ c.in_ok-reader.ensures g.C.Classes.has c.args.kinds.now;
}

pub returns-in-None : goal.returns-in-None
returns-in-None g c =
    let e : read_from g.C.Classes.has c.args.kinds.now (meaning c.args.grammar.now) ≡ (c.loop-at.roles.items, Some (Syntax c.loop-at.at)) =
    all-refused g.C.Classes.has c.args.kinds.now c.loop-at.at (left c.loop-at.reader) (left c.take.new.self) c.loop-at.roles.items _ c.in_ok-take.field-0 c.loop-at-test.true c.loop-at.invariant c.in-None.is c.in_ok-take.ensures in
    cc

pub returns-in-Some-eq0 : goal.returns-in-Some-eq0
returns-in-Some-eq0 g c =
    let e : read_from g.C.Classes.has c.args.kinds.now (meaning c.args.grammar.now) ≡ (c.loop-at.roles.items, Some (Unsupported c.loop-at.at)) =
    all-unsupported g.C.Classes.has c.args.kinds.now c.loop-at.at (left c.loop-at.reader) (left c.take.new.self) c.loop-at.roles.items _ c.in_ok-take.field-0 c.in-Some-eq0.field-0 c.loop-at-test.true c.loop-at.invariant c.in-Some-eq0.is (eq-eqb c.in-Some-eq0.field-0 0 c.in-Some-eq0.field-0-test) c.in_ok-take.ensures in
    cc

pub loop-at-preserved : goal.loop-at-preserved
loop-at-preserved g c =
    ReadSoFar-push g.C.Classes.has c.args.kinds.now c.loop-at.at (left c.loop-at.reader) (left c.take.new.self) c.loop-at.roles.items c.push.new.self.items _ c.in_ok-take.field-0 c.in-Some.role c.loop-at-test.true c.loop-at.invariant c.in-Some.is (ne_eqb c.in-Some.role 0 c.in-Some.role-test.1) c.in_ok-push-in-Some.ensures.items c.in_ok-take.ensures

pub returns-then-may_end : goal.returns-then-may_end
returns-then-may_end g c =
    let nullable : true ≡ is_nullable (left c.loop-at.reader) = sym c.if-may_end.true ∙ c.may_end.ensures in
    sym (all-end g.C.Classes.has c.args.kinds.now c.loop-at.at (left c.loop-at.reader) c.loop-at.roles.items _ true c.loop-at-test.false c.loop-at.invariant nullable)

pub returns : goal.returns
returns g c =
    let nullable : false ≡ is_nullable (left c.loop-at.reader) = sym c.if-may_end.false ∙ c.may_end.ensures in
    let end : read_from g.C.Classes.has c.args.kinds.now (meaning c.args.grammar.now) ≡ (c.loop-at.roles.items, Some (Syntax (length c.loop-at.roles.items))) =
    all-end g.C.Classes.has c.args.kinds.now c.loop-at.at (left c.loop-at.reader) c.loop-at.roles.items _ false c.loop-at-test.false c.loop-at.invariant nullable in
    let placed : length c.loop-at.roles.items ≡ c.loop-at.at = c.loop-at.invariant.placed in
    let past : length c.args.kinds.now ≤ c.loop-at.at = c.loop-at-test.false in
    let within : c.loop-at.at ≤ length c.args.kinds.now = c.loop-at.auto.at-end in
    let same : length c.loop-at.roles.items ≡ length c.args.kinds.now = omega arith in
    cc
