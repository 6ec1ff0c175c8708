use Rattle.std.proofs.Common.{◌≡◌, ◌<◌, ◌∙◌, Some, ap, sym, length, arith}
use Rattle.sim_world.specs.declared.jobs.Job.{Job}
use Rattle.sim_world.specs.Tables.{job_place, waiting_of, front}
use Rattle.sim_world.proofs.JobTable.{front_there, taken_at, none_there, none_left}
use Rattle.sim_world.proofs.jobs.take_front.Goals as goal

pub returns-then-place-len-clause-job : goal.returns-then-place-len-clause-job
returns-then-place-len-clause-job c =
    let jobs = c.args.jobs.now in
    let place : c.place_of-place.result ≡ job_place c.args.process jobs.items = c.place_of-place.ensures ∙ ap (job_place c.args.process) c.deref.ensures.value in
    let less : c.place_of-place.result < length jobs.items = omega (arith, jobs.ok.0) in
    ap (λ (job : Job). Some (waiting_of job)) c.remove-job.ensures.value ∙ sym (front_there c.args.process jobs.items c.remove-job.result c.place_of-place.result place less)

pub returns-then-place-len-clause-rest : goal.returns-then-place-len-clause-rest
returns-then-place-len-clause-rest c = λ p.
    let jobs = c.args.jobs.now in
    let place : c.place_of-place.result ≡ job_place c.args.process jobs.items = c.place_of-place.ensures ∙ ap (job_place c.args.process) c.deref.ensures.value in
    let less : c.place_of-place.result < length jobs.items = omega (arith, jobs.ok.0) in
    rw c.remove-job.ensures.items (taken_at c.args.process jobs.items p c.place_of-place.result place less)

pub returns-clause-job : goal.returns-clause-job
returns-clause-job c =
    let jobs = c.args.jobs.now in
    let place : c.place_of-place.result ≡ job_place c.args.process jobs.items = c.place_of-place.ensures ∙ ap (job_place c.args.process) c.deref.ensures.value in
    sym (ap front (none_there c.args.process jobs.items (omega (arith, place, jobs.ok.0))))

pub returns-clause-rest : goal.returns-clause-rest
returns-clause-rest c = λ p.
    let jobs = c.args.jobs.now in
    let place : c.place_of-place.result ≡ job_place c.args.process jobs.items = c.place_of-place.ensures ∙ ap (job_place c.args.process) c.deref.ensures.value in
    none_left c.args.process jobs.items p (omega (arith, place, jobs.ok.0))
