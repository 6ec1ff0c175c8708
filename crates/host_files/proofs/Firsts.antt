-- The first call that failed.
use Rattle.std.proofs.Common.{◌≡◌, List, Option, Some, None, IfSome, ap, subst, ◌∙◌}
use Rattle.file_log.specs.declared.call.Call.{Call}
use Rattle.path_names.specs.declared.paths.Paths.{Paths}
use Rattle.host_files.specs.Calls.{HasPaths}
use Rattle.host_files.specs.Paths.{IsFaultOfCall, IsPathOfCall}
use Rattle.host_files.specs.declared.first_fault.FirstFault.{FirstFault}
use Rattle.host_files.specs.declared.opened.Opened.{Opened}
use Rattle.host_files.specs.declared.reason.Reason.{Reason}
use Rattle.host_files.specs.declared.reason.Reason.TheVariants.{NoPath}
use Rattle.host_files.specs.declared.seat.Seat.{Seat}

-- a kept failure has its path and its reason
told : (paths : Paths) (slots : List (Option Opened)) (call : Call) (first : Option FirstFault) (reason : Reason) → IfSome first (λ f. IsPathOfCall paths slots call f.path) → IfSome first (λ f. f.reason ≡ reason) → ((HasPaths paths call → ⊥) → reason ≡ NoPath) → IfSome first (IsFaultOfCall paths slots call)
told paths slots call None reason path why outside = path
told paths slots call (Some f) reason path why outside = record { path = path; outside = λ none. why ∙ outside none }

-- the same of a call that left the paths and the seat as they were before it was counted
pub kept : (old new : Paths) → new ≡ old → (before after : Seat) → after ≡ before → (call : Call) (first : Option FirstFault) (reason : Reason) → (after.faults ≡ 0 → IfSome first (λ f. IsPathOfCall new after.slots call f.path)) → (after.faults ≡ 0 → IfSome first (λ f. f.reason ≡ reason)) → ((HasPaths old call → ⊥) → reason ≡ NoPath) → before.faults ≡ 0 → IfSome first (IsFaultOfCall old before.slots call)
kept old new same_paths before after same call first reason path why outside fresh =
    let still : after.faults ≡ 0 = ap (λ s. s.faults) same ∙ fresh in
    let P : Paths → Seat → Type 0 = λ p s. IfSome first (λ f. IsPathOfCall p s.slots call f.path) in
    told old before.slots call first reason (subst (λ p. P p before) same_paths (subst (λ s. P new s) same (path still))) (why still) outside
