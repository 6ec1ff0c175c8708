-- An item that changes no name and no file passes the tests.
use Rattle.cache_types.specs.declared.name.Name.{Name}
use Rattle.cache_types.specs.declared.name.Name.TheVariants as names
use Rattle.cache_types.specs.declared.seat.Who.{Who}
use Rattle.file_log.specs.Disk.{Disk}
use Rattle.file_log.specs.Operation.{IsStill}
use Rattle.file_log.specs.declared.item.LogItem.{LogItem}
use Rattle.log_summary.specs.Summary.{Summary}
use Rattle.rule_cases.proofs.Fields.{Known, Leaves, IsAsBefore, left_so, renamed_so, stays_so, whole_so, kept_so}

pub still_leaves : (s : Summary) (new : Disk) (item : LogItem) (who : Who) → Known s → IsStill s.state.disk new → Leaves s new item who
still_leaves s new item who k still = record {
  whole = λ root key. whole_so s new item k root key (as_before (names.Entry root key));
  left = λ name other. left_so s.state.disk new name (as_before name);
  renamed = λ root key. renamed_so s.state.disk new item who root key (as_before (names.Entry root key));
  entries = λ name f had kind. still.files f;
  stay = λ name. stays_so s.state.disk new name (as_before name);
  unwritten = λ name f had kind. still.files f;
  kept = kept_so s new who (λ root key. as_before (names.Entry root key));
}
  where
    as_before : (name : Name) → IsAsBefore s.state.disk new name
    as_before name = record { named = still.names name; bytes = λ f e. still.files f }
