-- A schedule goes on by one turn.
use Rattle.std.proofs.Common.{◌≡◌, ◌<◌, ℕ, ◌+◌, List, [], ◌∷◌, ◌++◌, length, get_or, take, refl, sym, ap, subst, ◌∙◌}
use Rattle.std.proofs.lemmas.List.{take_more}
use Rattle.sim_world.specs.declared.turn.Turn.{Turn}
use Rattle.sim_world.specs.Played.{Plays, Comes}
use Rattle.sim_world.specs.Scene.{Scene}

-- after the turns so far comes one turn more
pub comes_on : (old mid new : Scene) (schedule : List Turn) (turn : Turn) → Comes old schedule mid → Plays mid turn new → Comes old (schedule ++ turn ∷ []) new
comes_on old mid new [] turn comes plays = (new, subst (λ (scene : Scene). Plays scene turn new) comes plays, refl)
comes_on old mid new (first ∷ schedule) turn comes plays = (comes.0, comes.1, comes_on comes.0 mid new schedule turn comes.2 plays)

-- the same of the first turns of a schedule
pub comes_next : (old mid new : Scene) (schedule : List Turn) (n : ℕ) (turn : Turn) → n < length schedule → turn ≡ get_or schedule n turn → Comes old (take n schedule) mid → Plays mid turn new → Comes old (take (n + 1) schedule) new
comes_next old mid new schedule n turn less is comes plays =
    let more : take (n + 1) schedule ≡ take n schedule ++ turn ∷ [] = take_more schedule n turn less ∙ ap (λ (x : Turn). take n schedule ++ x ∷ []) (sym is) in
    subst (λ (turns : List Turn). Comes old turns new) (sym more) (comes_on old mid new (take n schedule) turn comes plays)
