-- Reading dumps in turn: those so far, and those to come.
use Rattle.std.proofs.Common.{◌≡◌, true, false, List, [], ◌∷◌, ◌++◌, Result, Ok, Err, MatchBool, refl, sym, ap, subst, append_assoc, append-nil}
use Rattle.std.specs.Prelude.{⊤, Bool}
use Rattle.dm_dump.specs.declared.fault.DumpFault.{DumpFault}
use Rattle.dm_dump.specs.Dumps.{IsDump}
use Rattle.dm_report.specs.declared.status.Status.{Status}
use Rattle.dm_top.specs.declared.files.NamedFile.{NamedFile}
use Rattle.dm_top.specs.declared.sources.Source.{Source}
use Rattle.dm_top.specs.Reading.{Named, named_of}
use Rattle.dm_top.specs.Rows.{Said}
use Rattle.dm_top.specs.Load.{bad_dump, with_dump, ReadsDumps}
use Rattle.dm_top.specs.Top.{is_memory}
use Rattle.dm_top.specs.Sources.{said_in}

abbrev pub with_said : List Said → Result (List Said) Status → Result (List Said) Status
with_said front (Ok others) = Ok (front ++ others)
with_said front (Err s) = Err s

-- what comes of the files that are left comes, behind what these sources say, of all
abbrev pub SoFar : List Named → List Named → List Said → Type 0
SoFar all rest front = (outcome : Result (List Said) Status) → ReadsDumps rest outcome → ReadsDumps all (with_said front outcome)

one_further : (front : List Said) (said : Said) (outcome : Result (List Said) Status) → with_said front (with_dump said outcome) ≡ with_said (front ++ said ∷ []) outcome
one_further front said (Ok others) = ap (λ (z : List Said). let o : Result (List Said) Status = Ok z in o) (sym (append_assoc front (said ∷ []) others))
one_further front said (Err s) = refl

pub goes_on : (all rest : List Named) (file : Named) (front : List Said) (source : Source) → SoFar all (file ∷ rest) front → source.file.bytes.items ≡ file.1 → IsDump file.1 (Ok source.dump) → SoFar all rest (front ++ said_in source ∷ [])
goes_on all rest file front source so_far same dump outcome h =
    let first : ReadsDumps (file ∷ rest) (with_dump (said_in source) outcome) = (Ok source.dump, dump, (outcome, h, ap (λ text. with_dump (record { text = text; dump = source.dump }) outcome) same)) in
    subst (λ (o : Result (List Said) Status). ReadsDumps all o) (one_further front (said_in source) outcome) (so_far _ first)

-- how it ends at a file that is no dump
pub ends : (all rest : List Named) (file : Named) (front : List Said) (s : Status) → SoFar all (file ∷ rest) front → MatchBool (is_memory s) ⊤ ((f : DumpFault) × IsDump file.1 (Err f) × (s ≡ bad_dump file.0 f)) → MatchBool (is_memory s) ⊤ (ReadsDumps all (Err s))
ends all rest file front s so_far h = by (is_memory s) h where
  by : (b : Bool) → MatchBool b ⊤ ((f : DumpFault) × IsDump file.1 (Err f) × (s ≡ bad_dump file.0 f)) → MatchBool b ⊤ (ReadsDumps all (Err s))
  by true h = tt
  by false (f, bad, e) = so_far (Err s) (Err f, bad, rw e refl)

-- all files were read
pub finished : (all : List Named) (rest : List NamedFile) (front : List Said) → rest ≡ [] → SoFar all (named_of rest) front → ReadsDumps all (Ok front)
finished all rest front none so_far =
    let last : SoFar all [] front = subst (λ (fs : List NamedFile). SoFar all (named_of fs) front) none so_far in
    subst (λ (z : List Said). ReadsDumps all (Ok z)) (append-nil front) (last (Ok []) refl)
