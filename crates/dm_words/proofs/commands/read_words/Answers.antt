use Rattle.std.proofs.Common.{◌-◌, List, map, take, drop, length}
use Rattle.std.specs.declared.string.String.{String}
use Rattle.std.specs.String.{string_bytes}
use Rattle.dm_words.specs.Parts.{Text}
use Rattle.dm_words.specs.Words.{load_of, check_task_of, run_of, show_of, gen_of}
use Rattle.dm_words.proofs.Read.{all_text}
use Rattle.dm_words.proofs.Texts.{told_texts, load_texts, check_task_texts, run_texts, show_texts, gen_texts}
use Rattle.dm_words.proofs.commands.read_words.Goals as goal

-- the words behind the command
abbrev behind : {Z : Type 0} → List (String Z) → List (String Z)
behind words = take (length words - 1) (drop 1 words)

abbrev texts_behind : {Z : Type 0} → List (String Z) → List Text
texts_behind words = map string_bytes (behind words)

pub returns-in-load-clause-text : goal.returns-in-load-clause-text
returns-in-load-clause-text c =
    told_texts (load_of (texts_behind c.args.words.now)) c.load.result c.load.ensures (load_texts (texts_behind c.args.words.now) (all_text (behind c.args.words.now)))

pub returns-in-text-clause-text : goal.returns-in-text-clause-text
returns-in-text-clause-text c =
    told_texts (check_task_of (texts_behind c.args.words.now)) c.check_task.result c.check_task.ensures
    (check_task_texts (texts_behind c.args.words.now) (all_text (behind c.args.words.now)))

pub returns-in-run-clause-text : goal.returns-in-run-clause-text
returns-in-run-clause-text c =
    told_texts (run_of (texts_behind c.args.words.now)) c.run.result c.run.ensures (run_texts (texts_behind c.args.words.now) (all_text (behind c.args.words.now)))

pub returns-in-show-clause-text : goal.returns-in-show-clause-text
returns-in-show-clause-text c =
    told_texts (show_of (texts_behind c.args.words.now)) c.show.result c.show.ensures (show_texts (texts_behind c.args.words.now) (all_text (behind c.args.words.now)))

pub returns-in-gen-clause-text : goal.returns-in-gen-clause-text
returns-in-gen-clause-text c =
    told_texts (gen_of (texts_behind c.args.words.now)) c.generate.result c.generate.ensures (gen_texts (texts_behind c.args.words.now) (all_text (behind c.args.words.now)))
