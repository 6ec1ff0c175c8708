-- What the tests of a rename and a removal say of a ledger, they say of the summary that it carries.
use Rattle.std.proofs.Common.{◌≡◌, Bool, List, ap, ap₂, ◌∙◌}
use Rattle.cache_types.specs.declared.name.Name.{Name}
use Rattle.cache_types.specs.declared.seat.Who.{Who}
use Rattle.file_log.specs.Disk.{Disk}
use Rattle.log_summary.specs.Summary.{OpenEvict, Summary}
use Rattle.rule_cases.specs.Cases.{passes_renaming, passes_removing}
use Rattle.world_log.specs.Ledgers.{CarriesRest, summary_with, told_by}
use Rattle.world_log.specs.declared.ledger.Ledger.{Ledger}
use Rattle.world_tables.specs.Tables.{disk_at}
use Rattle.world_tables.specs.declared.tables.Tables.{Tables}

told : (s : Summary) (ledger : Ledger) (tables : Tables) → CarriesRest ledger s → disk_at tables ≡ s.state.disk → told_by s.puts ledger tables ≡ summary_with s.state.disk s.puts s.evicting s.rough
told s ledger tables rest disk =
    ap (λ (d : Disk). summary_with d s.puts ledger.evicting.items ledger.rough) disk
    ∙ ap (λ (l : List OpenEvict). summary_with s.state.disk s.puts l ledger.rough) rest.evicting
    ∙ ap (λ (b : Bool). summary_with s.state.disk s.puts s.evicting b) rest.rough

pub renaming_told : (s : Summary) (ledger : Ledger) (tables : Tables) (who : Who) (from to : Name) → CarriesRest ledger s → disk_at tables ≡ s.state.disk
    → passes_renaming (told_by s.puts ledger tables) who from to ((disk_at tables).names from) ≡ passes_renaming s who from to (s.state.disk.names from)
renaming_told s ledger tables who from to rest disk = ap₂ (λ (t : Summary) (d : Disk). passes_renaming t who from to (d.names from)) (told s ledger tables rest disk) disk

pub removing_told : (s : Summary) (ledger : Ledger) (tables : Tables) (who : Who) (name : Name) → CarriesRest ledger s → disk_at tables ≡ s.state.disk
    → passes_removing (told_by s.puts ledger tables) who name ((disk_at tables).names name) ≡ passes_removing s who name (s.state.disk.names name)
removing_told s ledger tables who name rest disk = ap₂ (λ (t : Summary) (d : Disk). passes_removing t who name (d.names name)) (told s ledger tables rest disk) disk
