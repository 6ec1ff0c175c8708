-- What a lookup of the entry of `abc` leaves.
use Rattle.std.proofs.Common.{◌≡◌, ◌≤◌, ◌<◌, ◌⊎◌, inl, inr, ℕ, false, List, [], ◌∷◌, ◌++◌, length, Option, Some, None, Ok, refl, sym, ap, subst, ◌∙◌, arith}
use Rattle.std.specs.Prelude.{codes}
use Rattle.std.proofs.lemmas.List.{append-nil}
use Rattle.std.proofs.lemmas.List.Sums.{AllPass-from_list_all}
use Rattle.hex.specs.Hex.{decode_of, is_hex_digit}
use Rattle.hex.proofs.OnLiterals.{hex_on_literals}
use Rattle.cache_key.specs.Digits.{Spells, IsKeyText}
use Rattle.cache_types.specs.declared.answer.Answer.{Answer}
use Rattle.cache_types.specs.declared.answer.Answer.TheVariants as answers
use Rattle.cache_types.specs.declared.key.Key.{Key}
use Rattle.cache_types.specs.declared.meta.Meta.TheVariants.{Unknown}
use Rattle.cache_types.specs.declared.request.Request.{Request}
use Rattle.cache_types.specs.declared.request.Request.TheVariants as requests
use Rattle.cache_types.specs.declared.seat.Who.{Who}
use Rattle.cache_types.specs.Driver.{DriverKeys, blob_of}
use Rattle.cache_types.specs.Names.{name_code}
use Rattle.crc_small.specs.Sum.{byte_step}
use Rattle.item_frame.specs.Item.{Reads}
use Rattle.item_frame.proofs.Laws.{reads_one}
use Rattle.file_log.specs.declared.item.LogItem.{LogItem}
use Rattle.file_log.specs.Log.{History, with_items, own}
use Rattle.file_log.specs.State.{disk_of}
use Rattle.file_log.specs.Told.{Grows, Rose}
use Rattle.folder_rules.specs.Holds.{FolderHolds}
use Rattle.folder_rules.specs.Whole.{folder_of}
use Rattle.folder_store.specs.Finds.{FindsOrFails}
use Rattle.folder_store.specs.Lookup.{LooksUp, LookedUp}
use Rattle.memory_files.specs.Lone.{IsLone}
use Rattle.op_union.specs.Requests.{Operates}
use Rattle.report_text.specs.declared.status.Status.{Status}
use Rattle.report_text.specs.declared.status.Status.TheVariants as statuses
use Rattle.cmd_words.specs.declared.command.Command.{Command}
use Rattle.cmd_words.specs.declared.word.Word.{Word}
use Rattle.cmd_words.specs.declared.word.Word.TheVariants.{Get, Put}
use Rattle.path_names.specs.RoNames.{is_ro_name}
use Rattle.settings_read.specs.Overridden.{names_given}
use Rattle.cache_main.specs.Keys.{HasKeys}
use Rattle.cache_main.specs.Printing.{IsWhole, IsPrinted}
use Rattle.cache_main.specs.Requests.{request_of}
use Rattle.cache_main.specs.Served.{Served, ServedBy, OperationServed}
use Rattle.cache_main.specs.Settings.{LiesInFolder}
use Rattle.cache_main.specs.Top.{IsRefused, IsUnread, AsksToRead, RefusesSource}
use Rattle.cache_main.specs.Words.{asked}
use Rattle.cache_main.proofs.Asking.{of_asked}
use Rattle.cache_main.proofs.GoodWords.{RefusedWell, get_served}
use Rattle.cache_tests.specs.declared.premises.TheConstants.{KEY, ENTRY}
use Rattle.cache_tests.specs.Found.{IsFound, words_of_abc, files_of_abc}

abbrev pub abc : List ℕ
abc = codes "abc"

-- what the words ask for
abbrev pub abc_command : Word → Command
abc_command word = record {
  word = word;
  options = record { name = codes "id"; value = codes "d" } ∷ record { name = codes "gpu"; value = codes "g" } ∷ record { name = codes "layout"; value = codes "folder" } ∷ record { name = codes "root"; value = codes "store" } ∷ [];
  places = codes "a9993e364706816aba3e25717850c26c9cd0d89d" ∷ [];
}

pub get_asked : asked (words_of_abc (codes "get")) ≡ Some (abc_command Get)
unfolding asked
get_asked = refl

pub put_asked : asked (words_of_abc (codes "put")) ≡ Some (abc_command Put)
unfolding asked
put_asked = refl

abbrev pub driver : DriverKeys
driver = record { id = codes "d"; gpu = codes "g"; flags = 0 }

abbrev the_get : Request
the_get = requests.Get (folder_of 0) driver KEY (record { names = []; list = false })

-- no variable names a read-only database
no_names : names_given [] ≡ []
unfolding is_ro_name
no_names = refl

-- without variables the words alone say where the store lies
pub lies : (word : Word) → LiesInFolder (abc_command word) []
lies word = record { allowed = record { on = refl; root = refl; few = subst (λ (names : List (List ℕ)). length names ≤ 8) (sym no_names) (omega arith) }; layout = refl }

reads_abc : Reads driver ENTRY abc
unfolding blob_of byte_step
reads_abc = record { meta = Unknown; fits = tt; size = omega arith; whole = refl }

-- its key's word is a key
abbrev pub text : List ℕ
text = codes "a9993e364706816aba3e25717850c26c9cd0d89d"

pub is_key : IsKeyText text
unfolding hex_on_literals
is_key = record { length_is = refl; digits = AllPass-from_list_all is_hex_digit text refl }

get_keys : HasKeys (abc_command Get)
get_keys = record { key = is_key; meta = tt }

abbrev before : History
before = record { start = files_of_abc; log = [] }

holds_abc : FolderHolds (disk_of before) 0 driver KEY abc
unfolding name_code
holds_abc = reads_abc

held_is : (blob : List ℕ) → FolderHolds (disk_of before) 0 driver KEY blob → Reads driver ENTRY blob
unfolding name_code
held_is blob held = held

-- the digits spell the key
pub key_spelled : Spells text KEY
unfolding hex_on_literals
key_spelled = refl

spelled_key : (key : Key) → Spells text key → key ≡ KEY
unfolding hex_on_literals
spelled_key key s =
    let bytes : KEY.bytes ≡ key.bytes = cc in
    ap (λ (b : List ℕ). record { bytes = b }) (sym bytes)

-- all new items are the seat's own
alone : (me : Who) (new : Option History) (news : List LogItem) → new ≡ Some (with_items before news) → IsLone me new → own me news ≡ news
alone me new news is lone = subst (IsLone me) is lone

-- no count rose from 0 to 0
pub never_rose : Rose 0 0 → ⊥
never_rose rose = omega arith

-- ---- by the answer

module _ (me : Who) (status : Status) (new : Option History) (written : Option (List ℕ)) (failed : ℕ) where
  whole_is : (bytes : List ℕ) → IsWhole bytes (Some []) written 0 failed → written ≡ Some bytes
  whole_is bytes w = w.added

  hit : (blob : List ℕ) → blob ≡ abc → IsPrinted the_get (answers.Hit blob) status (Some []) written 0 failed → IsFound status written
  hit blob is (inl p) = rw p.0 (whole_is blob p.1 ∙ ap (λ (b : List ℕ). Some b) is)
  hit blob is (inr p) = rw p.0 tt

  lacking : IsPrinted the_get answers.NoMemory status (Some []) written 0 failed → IsFound status written
  lacking (inl p) = rw p.0 (whole_is [] p.1)
  lacking (inr p) = rw p.0 tt

  by_answer : (answer : Answer) → LookedUp me the_get 0 driver KEY (Some before) new 0 0 answer → FindsOrFails (FolderHolds (disk_of before) 0 driver KEY) answer
      → IsPrinted the_get answer status (Some []) written 0 failed → IsFound status written
  by_answer (answers.Hit blob) looked finds p = hit blob (reads_one driver ENTRY blob abc (held_is blob finds) reads_abc) p
  by_answer answers.Miss looked finds p = absurd (finds abc holds_abc)
  by_answer answers.FilesFault looked finds p = absurd (never_rose (looked.cause refl))
  by_answer answers.NoMemory looked finds p = lacking p
  by_answer answer looked finds p = absurd looked.kind

  module _ (old : Option History) (start : old ≡ Some before) (left left' out : Option (List ℕ)) (empty : out ≡ Some []) (faults : ℕ) (none : faults ≡ 0) where
    served_well : OperationServed (abc_command Get) [] me status old new 0 0 left left' out written faults failed → IsLone me new → IsFound status written
    served_well s lone =
        let key : s.key ≡ KEY = spelled_key s.key s.spells in
        let request : request_of (abc_command Get) s.settings s.key s.meta s.blob ≡ the_get = ap (λ (k : Key). requests.Get (folder_of 0) driver k (record { names = []; list = false })) key in
        let asked_so = subst (λ (r : Request). Operates me r old new 0 0 s.answer) request s.done in
        let done = subst (λ (h : Option History). Operates me the_get h new 0 0 s.answer) start asked_so in
        let shown = subst (λ (r : Request). IsPrinted r s.answer status out written faults failed) request s.printed in
        let on_nothing = subst (λ (w : Option (List ℕ)). IsPrinted the_get s.answer status w written faults failed) empty shown in
        let printed = subst (λ (n : ℕ). IsPrinted the_get s.answer status (Some []) written n failed) none on_nothing in
        by_answer s.answer done (done.told.2.finds (alone me new done.told.0 done.told.1 lone)) printed

    module _ (asks : Option Command) (is : asks ≡ Some (abc_command Get)) where
      -- without memory to begin, nothing is printed
      by_case : {P Q : Type 0} → (Q → written ≡ Some []) → ((status ≡ statuses.NoMemory) × P × Q) ⊎ Served asks [] me status old new 0 0 left left' out written faults failed → IsLone me new → IsFound status written
      by_case same (inl unbegun) lone = rw unbegun.0 (same unbegun.2)
      by_case same (inr s) lone = served_well (of_asked asks (abc_command Get) (λ c. ServedBy c.word c [] me status old new 0 0 left left' out written faults failed) is s) lone

      -- the words are served, whatever else could be
      pub abc_found : {R P Q : Type 0} → RefusedWell asks [] status → ((status ≡ statuses.ReadFault) → AsksToRead asks × R) → ((count : ℕ) → status ≡ statuses.TooLarge count → RefusesSource asks count left left') → (Q → written ≡ Some [])
          → IsRefused status ⊎ IsUnread status ⊎ ((status ≡ statuses.NoMemory) × P × Q) ⊎ Served asks [] me status old new 0 0 left left' out written faults failed → IsLone me new → IsFound status written
      abc_found refused fault large same all lone = by_case same (get_served asks [] (abc_command Get) is refl status left left' (lies Get) get_keys refused fault large all) lone
