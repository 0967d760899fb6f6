use Rattle.std.proofs.Common.{rules, ℕ, List}
use Rattle.ann_key.specs.KeyRefs.{text_of}
use Rattle.dir_remote.specs.Traces.{Each, IsRetrieveCall, Traced}
use Rattle.dir_remote.proofs.TraceLaws.{of_directory}
use Rattle.dir_remote.proofs.remote.DirRemoteRemote.retrieve.Goals.{in-Some, in-None}
use Rattle.dir_remote.proofs.remote.DirRemoteRemote.retrieve.Goals as goal

pub returns-clause-retrieved : goal.returns-clause-retrieved
returns-clause-retrieved g c =
    elim c.match-self.branch [
      | in-Some w ↦ record {
        outcome = c.match-self.outcome;
        says = c.say.ensures.says;
        prepared = search rules;
        works = search rules;
        traced =
            let P : List ℕ → Type 0 = λ d. Traced (Each (IsRetrieveCall d (text_of c.args.key) c.args.file.now)) (g.D.Desk.told c.args.self.now.desk).log (g.D.Desk.told c.match-self.self-inside.desk).log in
            of_directory P c.args.self.now.directory w.view.result.now (search rules) (search rules);
        calm = search rules;
        idle = search rules;
      }
      | in-None w ↦ record {
        outcome = c.match-self.outcome;
        says = c.say.ensures.says;
        prepared = search rules;
        works = search rules;
        traced = search rules;
        calm = search rules;
        idle = search rules;
      }
    ]
