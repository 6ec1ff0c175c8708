use Rattle.std.proofs.Common.{◌≡◌, ◌↔◌, Bool, IsTrue, None, List, ℕ, ap, subst, ◌∙◌}
use Rattle.cache_types.specs.declared.name.Name.{Name}
use Rattle.cache_types.specs.declared.name.Name.TheVariants.{Ro, RoIdx}
use Rattle.file_log.specs.Disk.{Disk}
use Rattle.file_log.specs.State.{disk_of}
use Rattle.sim_world.proofs.Turning.{both_hold, first_fails}
use Rattle.sim_world.proofs.stage.Stage.is_absent.Goals as goal
use Rattle.sim_world.proofs.stage.Stage.is_absent.Goals.{then-lacks, else-lacks}

-- a test of tables and a name, as one of the world's disk and the same name
lacks_so : (lacks : Bool) (d d' : Disk) (name name' : Name) → d ≡ d' → name ≡ name' → (IsTrue lacks ↔ (d.names name ≡ None)) → IsTrue lacks ↔ (d'.names name' ≡ None)
lacks_so lacks d d' name name' disk same decides =
    subst (λ (n : Name). IsTrue lacks ↔ (d'.names n ≡ None)) same (subst (λ (x : Disk). IsTrue lacks ↔ (x.names name ≡ None)) disk decides)

pub returns : goal.returns
returns c =
    let d = disk_of c.args.self.now.world.past in
    let root = c.args.root in
    let first = lacks_so c.lacks.result _ d (Ro root c.in_ok-copy.field-0) (Ro root c.args.name.now) c.tables.ensures (ap (λ (name : List ℕ). Ro root name) c.in_ok-copy.ensures) c.lacks.ensures in
    elim c.if-lacks.branch [
      | then-lacks w ↦ both_hold c.lacks.result w.lacks-then-lacks.result c.if-lacks.result w.if-lacks.true w.result-is first
          (lacks_so w.lacks-then-lacks.result _ d (RoIdx root c.in_ok-copy-2.field-0) (RoIdx root c.args.name.now) w.tables-then-lacks.ensures (ap (λ (name : List ℕ). RoIdx root name) c.in_ok-copy-2.ensures) w.lacks-then-lacks.ensures)
      | else-lacks w ↦ first_fails c.lacks.result c.if-lacks.result w.if-lacks.false (w.result-is ∙ w.if-lacks.false) first
    ]
