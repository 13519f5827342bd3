use Rattle.std.proofs.Common.{[], ◌∷◌, List, length, arith, sym, ap, subst, ◌∙◌}
use Rattle.std.specs.Vec.Iter.{into_iter_items}
use Rattle.std.proofs.lemmas.List.{map-append, nil_from_length}
use Rattle.std.proofs.lemmas.Result.{err_from_is_err_and}
use Rattle.dm_top.specs.declared.files.NamedFile.{NamedFile}
use Rattle.dm_top.specs.Reading.{Named, named_of}
use Rattle.dm_top.specs.Rows.{Said}
use Rattle.dm_top.specs.Sources.{said_in, said_of}
use Rattle.dm_top.proofs.Gathering.{SoFar, goes_on, ends, finished}
use Rattle.dm_top.proofs.sources.read_sources.Goals as goal

pub returns-in_err-read_source-clause-said : goal.returns-in_err-read_source-clause-said
returns-in_err-read_source-clause-said c =
    let all : List Named = named_of c.args.files.items in
    let front : List Said = said_of c.loop-file.sources.items in
    let p = err_from_is_err_and c.from_residual-in_err-read_source.result c.from_residual-in_err-read_source.ensures.1 in
    rw (p.1, p.2) (ends all (named_of (into_iter_items c.next.new.self)) (c.in-Some.file.name, c.in-Some.file.bytes.items) front c.in_err-read_source.field-0.0
    (subst (λ (fs : List NamedFile). SoFar all (named_of fs) front) c.in-Some.ensures.steps.0 c.loop-file.invariant.0) c.in_err-read_source.ensures.said)

pub loop-file-preserved : goal.loop-file-preserved
loop-file-preserved c =
    let all : List Named = named_of c.args.files.items in
    let front : List Said = said_of c.loop-file.sources.items in
    let rest : List Named = named_of (into_iter_items c.next.new.self) in
    let short = ap length c.in-Some.ensures.steps.0 in
    let gone = c.in-Some.ensures.steps.1 in
    let was = c.loop-file.invariant.1 in (
      subst (λ (z : List Said). SoFar all rest z) (sym (ap said_of c.in_ok-push.ensures.items ∙ map-append said_in c.loop-file.sources.items (c.in_ok-read_source.field-0 ∷ [])))
          (goes_on all rest (c.in-Some.file.name, c.in-Some.file.bytes.items) front c.in_ok-read_source.field-0
          (subst (λ (fs : List NamedFile). SoFar all (named_of fs) front) c.in-Some.ensures.steps.0 c.loop-file.invariant.0) c.in_ok-read_source.ensures.said.0 c.in_ok-read_source.ensures.said.1),
      omega arith,
    )

pub returns-clause-said : goal.returns-clause-said
returns-clause-said c = finished (named_of c.args.files.items) (into_iter_items c.loop-file.file-iterator) (said_of c.loop-file.sources.items) (nil_from_length _ (sym c.loop-file.invariant.1 ∙ c.in-None.ensures.steps.0)) c.loop-file.invariant.0
