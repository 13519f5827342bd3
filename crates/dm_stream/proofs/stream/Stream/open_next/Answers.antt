use Rattle.dm_stream.proofs.LogLemmas.{opens_next}
use Rattle.dm_stream.proofs.stream.Stream.open_next.Goals as goal

pub returns-clause-same : goal.returns-clause-same
returns-clause-same c = λ heads.
    let it = c.self.inside in
    opens_next heads it.front c.go_on.new.self it.files.now _ it.start c.is_empty.result c.args.self.now c.in-len1-up.len_at_least c.requires c.is_empty.ensures c.in_ok-go_on.ensures c.self.view_is
