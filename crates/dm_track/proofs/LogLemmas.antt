-- The binlogs of a source, one after another.
use Rattle.std.proofs.Common.{◌≡◌, ℕ, suc, ◌+◌, ◌-◌, ◌<◌, List, [], ◌∷◌, ◌++◌, map, refl, ap, ◌∙◌, subst, append_assoc, arith}
use Rattle.std.specs.List.{range_with_len}
use Rattle.dm_files.specs.declared.files.NamedFile.{NamedFile}
use Rattle.dm_stream.specs.declared.event.LogFile as program_file
use Rattle.dm_stream.specs.Logs.{LogFile}
use Rattle.dm_stream.specs.Views.{seen_file}
use Rattle.dm_track.specs.Builds.{log_file}

seen_more : (logs : List program_file.LogFile) (x : program_file.LogFile) → map seen_file (logs ++ x ∷ []) ≡ map seen_file logs ++ seen_file x ∷ []
seen_more [] x = refl
seen_more (l ∷ ls) x = ap (λ (files : List LogFile). seen_file l ∷ files) (seen_more ls x)

-- one file more
pub next_file : (files : List NamedFile) (logs new : List program_file.LogFile) (x : program_file.LogFile) (number end : ℕ) (all : List LogFile) → number < end → new ≡ logs ++ x ∷ [] → seen_file x ≡ log_file files number
    → map seen_file logs ++ map (log_file files) (range_with_len number (end - number)) ≡ all → map seen_file new ++ map (log_file files) (range_with_len (number + 1) (end - (number + 1))) ≡ all
next_file files logs new x number end all below new_is x_is e =
    let rest = map (log_file files) (range_with_len (number + 1) (end - (number + 1))) in
    let n : end - number ≡ suc (end - (number + 1)) = omega arith in
    let before : map seen_file logs ++ map (log_file files) (range_with_len number (suc (end - (number + 1)))) ≡ all =
    subst (λ (k : ℕ). map seen_file logs ++ map (log_file files) (range_with_len number k) ≡ all) n e in
    ap (λ (ls : List program_file.LogFile). map seen_file ls ++ rest) new_is
    ∙ ap (λ (ls : List LogFile). ls ++ rest) (seen_more logs x)
    ∙ append_assoc (map seen_file logs) (seen_file x ∷ []) rest
    ∙ ap (λ (f : LogFile). map seen_file logs ++ f ∷ rest) x_is
    ∙ before
