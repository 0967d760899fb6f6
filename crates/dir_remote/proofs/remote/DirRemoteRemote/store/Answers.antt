use Rattle.std.proofs.Common.{◌≡◌, rules, ℕ, List, subst}
use Rattle.std.specs.Prelude.{Option, Some, None}
use Rattle.ann_key.specs.KeyRefs.{text_of}
use Rattle.dir_remote.specs.Contents.{LeavesInTransit}
use Rattle.dir_remote.proofs.SpareLaws.{leaves_none}
use Rattle.dir_remote.proofs.remote.DirRemoteRemote.store.Goals.{in-Some, in-None}
use Rattle.dir_remote.proofs.remote.DirRemoteRemote.store.Goals as goal

pub returns-clause-spared : goal.returns-clause-spared
returns-clause-spared g c =
    elim c.match-self.branch [
      | in-Some w ↦
          let P : Option (List ℕ) → Type 0 = λ d. LeavesInTransit c.args.self.now.mark d (text_of c.args.key) (g.D.Desk.told c.args.self.now.desk).files (g.D.Desk.told c.match-self.self-inside.desk).files in
          let e : Some w.view.result.now ≡ c.args.self.now.directory = search rules in
          let h : P (Some w.view.result.now) = search rules in
          subst P e h
      | in-None w ↦
          let P : Option (List ℕ) → Type 0 = λ d. LeavesInTransit c.args.self.now.mark d (text_of c.args.key) (g.D.Desk.told c.args.self.now.desk).files (g.D.Desk.told c.match-self.self-inside.desk).files in
          let e : None ≡ c.args.self.now.directory = search rules in
          subst P e (leaves_none c.args.self.now.mark (text_of c.args.key) (g.D.Desk.told c.args.self.now.desk).files (g.D.Desk.told c.match-self.self-inside.desk).files)
    ]
