-- The jobs of a process after one was put or taken, and how many it was offered.
use Rattle.std.proofs.Common.{◌≡◌, ◌<◌, ◌≤◌, ◌∙◌, ℕ, suc, ◌+◌, nat_eq, Bool, true, false, not, cond, List, [], ◌∷◌, ◌++◌, length, drop, get_or, Option, Some, None, filter, refl, sym, ap, arith}
use Rattle.std.proofs.lemmas.Bool.{eqb-true}
use Rattle.std.specs.List.{remove}
use Rattle.world_tables.specs.Find.{find_by}
use Rattle.world_tables.proofs.Finds.{dropped_if}
use Rattle.sim_world.specs.declared.jobs.Job.{Job}
use Rattle.sim_world.specs.declared.jobs.Offered.{Offered}
use Rattle.sim_world.specs.Scene.{Waiting}
use Rattle.sim_world.specs.Tables.{jobs_of, job_place, waiting_of, front, count_from, offered_to}

-- ---- the front job

front_by : (process : ℕ) (job : Job) (jobs : List Job) (d : Job) (b : Bool) → (job_place process jobs < length jobs → front (jobs_of process jobs) ≡ Some (waiting_of (get_or jobs (job_place process jobs) d)))
    → cond b 0 (1 + job_place process jobs) < length (job ∷ jobs)
    → front (cond b (waiting_of job ∷ jobs_of process jobs) (jobs_of process jobs)) ≡ Some (waiting_of (get_or (job ∷ jobs) (cond b 0 (1 + job_place process jobs)) d))
front_by process job jobs d true more less = refl
front_by process job jobs d false more less =
    let next : 1 + job_place process jobs ≡ suc (job_place process jobs) = omega arith in
    more (omega (arith, less)) ∙ ap (λ (n : ℕ). Some (waiting_of (get_or (job ∷ jobs) n d))) (sym next)

pub front_at : (process : ℕ) (jobs : List Job) (d : Job) → job_place process jobs < length jobs → front (jobs_of process jobs) ≡ Some (waiting_of (get_or jobs (job_place process jobs) d))
front_at process [] d less = absurd (omega (arith, less))
front_at process (job ∷ jobs) d less = front_by process job jobs d (nat_eq process job.process) (front_at process jobs d) less

abbrev no_jobs : List Waiting
no_jobs = []

none_by : (process : ℕ) (job : Job) (jobs : List Job) (b : Bool) → (length jobs ≤ job_place process jobs → jobs_of process jobs ≡ [])
    → length (job ∷ jobs) ≤ cond b 0 (1 + job_place process jobs) → cond b (waiting_of job ∷ jobs_of process jobs) (jobs_of process jobs) ≡ []
none_by process job jobs true more past = absurd (omega (arith, past))
none_by process job jobs false more past = more (omega (arith, past))

pub none_there : (process : ℕ) (jobs : List Job) → length jobs ≤ job_place process jobs → jobs_of process jobs ≡ []
none_there process [] past = refl
none_there process (job ∷ jobs) past = none_by process job jobs (nat_eq process job.process) (none_there process jobs) past

-- the same at a place that was counted
pub front_there : (process : ℕ) (jobs : List Job) (d : Job) (n : ℕ) → n ≡ job_place process jobs → n < length jobs → front (jobs_of process jobs) ≡ Some (waiting_of (get_or jobs n d))
front_there process jobs d n e less = front_at process jobs d (omega (arith, e, less)) ∙ ap (λ (k : ℕ). Some (waiting_of (get_or jobs k d))) (sym e)

-- ---- a job that is taken

-- the jobs that are left of a process, and of another
abbrev left : Bool → List Waiting → List Waiting
left b jobs = cond b (drop 1 jobs) jobs

stays : (b k : Bool) (job : Waiting) (more rest : List Waiting) → (b ≡ true → k ≡ false) → rest ≡ left b more → cond k (job ∷ rest) rest ≡ left b (cond k (job ∷ more) more)
stays true true job more rest h e = let clash : true ≡ false = h refl in absurd cc
stays true false job more rest h e = e
stays false true job more rest h e = ap (λ (js : List Waiting). job ∷ js) e
stays false false job more rest h e = e

goes : (b k : Bool) (job : Waiting) (more : List Waiting) → b ≡ k → more ≡ left b (cond k (job ∷ more) more)
goes true true job more e = refl
goes false false job more e = refl
goes true false job more e = absurd cc
goes false true job more e = absurd cc

other : (process p q : ℕ) → nat_eq process q ≡ false → nat_eq p process ≡ true → nat_eq p q ≡ false
other process p q e k = ap (λ (n : ℕ). nat_eq n q) (eqb-true p process k) ∙ e

taken_by : (process p : ℕ) (job : Job) (jobs : List Job) (b : Bool) → nat_eq process job.process ≡ b
    → (job_place process jobs < length jobs → jobs_of p (remove jobs (job_place process jobs)) ≡ left (nat_eq p process) (jobs_of p jobs))
    → cond b 0 (1 + job_place process jobs) < length (job ∷ jobs)
    → jobs_of p (remove (job ∷ jobs) (cond b 0 (1 + job_place process jobs))) ≡ left (nat_eq p process) (jobs_of p (job ∷ jobs))
taken_by process p job jobs true e more less = goes (nat_eq p process) (nat_eq p job.process) (waiting_of job) (jobs_of p jobs) (ap (nat_eq p) (eqb-true process job.process e))
taken_by process p job jobs false e more less =
    let next : 1 + job_place process jobs ≡ suc (job_place process jobs) = omega arith in
    ap (λ (n : ℕ). jobs_of p (remove (job ∷ jobs) n)) next
    ∙ stays (nat_eq p process) (nat_eq p job.process) (waiting_of job) (jobs_of p jobs) (jobs_of p (remove jobs (job_place process jobs))) (other process p job.process e) (more (omega (arith, less)))

taken : (process : ℕ) (jobs : List Job) (p : ℕ) → job_place process jobs < length jobs → jobs_of p (remove jobs (job_place process jobs)) ≡ left (nat_eq p process) (jobs_of p jobs)
taken process [] p less = absurd (omega (arith, less))
taken process (job ∷ jobs) p less = taken_by process p job jobs (nat_eq process job.process) refl (taken process jobs p) less

pub taken_at : (process : ℕ) (jobs : List Job) (p n : ℕ) → n ≡ job_place process jobs → n < length jobs → jobs_of p (remove jobs n) ≡ cond (nat_eq p process) (drop 1 (jobs_of p jobs)) (jobs_of p jobs)
taken_at process jobs p n e less = ap (λ (k : ℕ). jobs_of p (remove jobs k)) e ∙ taken process jobs p (omega (arith, e, less))

none_left_by : (p process : ℕ) (jobs : List Job) (b : Bool) → nat_eq p process ≡ b → jobs_of process jobs ≡ [] → jobs_of p jobs ≡ left b (jobs_of p jobs)
none_left_by p process jobs true e none =
    let here : jobs_of p jobs ≡ [] = ap (λ (n : ℕ). jobs_of n jobs) (eqb-true p process e) ∙ none in
    here ∙ ap (drop 1) (sym here)
none_left_by p process jobs false e none = refl

pub none_left : (process : ℕ) (jobs : List Job) (p : ℕ) → length jobs ≤ job_place process jobs → jobs_of p jobs ≡ cond (nat_eq p process) (drop 1 (jobs_of p jobs)) (jobs_of p jobs)
none_left process jobs p past = none_left_by p process jobs (nat_eq p process) refl (none_there process jobs past)

-- ---- a job that is put

pushed : (k b : Bool) (x last : Waiting) (js : List Waiting) → cond k (x ∷ cond b (js ++ last ∷ []) js) (cond b (js ++ last ∷ []) js) ≡ cond b (cond k (x ∷ js) js ++ last ∷ []) (cond k (x ∷ js) js)
pushed true true x last js = refl
pushed true false x last js = refl
pushed false true x last js = refl
pushed false false x last js = refl

pub one_more : (p : ℕ) (jobs : List Job) (job : Job) → jobs_of p (jobs ++ job ∷ []) ≡ cond (nat_eq p job.process) (jobs_of p jobs ++ waiting_of job ∷ []) (jobs_of p jobs)
one_more p [] job = refl
one_more p (x ∷ xs) job =
    ap (λ (js : List Waiting). cond (nat_eq p x.process) (waiting_of x ∷ js) js) (one_more p xs job)
    ∙ pushed (nat_eq p x.process) (nat_eq p job.process) (waiting_of x) (waiting_of job) (jobs_of p xs)

-- ---- how many a process was offered

not_not : (b : Bool) → b ≡ not (not b)
not_not true = refl
not_not false = refl

abbrev pub is_another : ℕ → Offered → Bool
is_another process x = not (nat_eq process x.process)

at_count : (b : Bool) (count : ℕ) (o r : Option ℕ) → o ≡ cond b None r → count_from (cond b (Some count) o) ≡ cond b count (count_from r)
at_count true count o r e = refl
at_count false count o r e = ap count_from e

pub offered_more : (process count : ℕ) (offered : List Offered) (p : ℕ)
    → count_from (cond (nat_eq p process) (Some count) (find_by (λ (x : Offered). nat_eq p x.process) (λ x. x.count) (filter (is_another process) offered))) ≡ cond (nat_eq p process) count (offered_to offered p)
offered_more process count offered p = at_count (nat_eq p process) count _ _ (dropped_if (nat_eq p process) (λ (x : Offered). nat_eq p x.process) (λ x. x.count) (is_another process) offered
    (λ x e. let same : p ≡ x.process = eqb-true p x.process e in flip p process ∙ ap (nat_eq process) same ∙ not_not (nat_eq process x.process)))
  where
    flip : (a b : ℕ) → nat_eq a b ≡ nat_eq b a
    flip a b = grind arith
