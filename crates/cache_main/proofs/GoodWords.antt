-- A put or a get whose store is built and whose keys are keys isn't refused.
use Rattle.std.proofs.Common.{◌≡◌, ◌⊎◌, inl, inr, ℕ, List, Option, Some, None, IsSomeAnd, refl, sym, subst, ◌∙◌}
use Rattle.cmd_words.specs.declared.command.Command.{Command}
use Rattle.cmd_words.specs.declared.word.Word.{Word}
use Rattle.cmd_words.specs.declared.word.Word.TheVariants as commands
use Rattle.report_text.specs.declared.status.Status.{Status}
use Rattle.report_text.specs.declared.status.Status.TheVariants as statuses
use Rattle.settings_read.specs.Settings.{IsOff, HasNoRoot, HasTooMany}
use Rattle.settings_read.specs.Variables.{Environment}
use Rattle.cache_main.specs.Keys.{HasKeys, HasBadKey}
use Rattle.cache_main.specs.Settings.{over_of, LiesInFolder, LiesElsewhere, IsTurnedOff, LacksRoot, NamesTooMany, IsUnbuilt}
use Rattle.cache_main.specs.Top.{EndsExactly, IsRefused, IsUnread, AsksToRead, AsksNoSource, RefusesSource}
use Rattle.cache_main.specs.Words.{HasNoReading, NeedsSettings, IsOperation, ReadsSource, LeavesSource}
use Rattle.cache_main.proofs.Asking.{of_asked}
use Rattle.cache_main.proofs.Excluded.{not_off, has_root, not_many}

-- all that refuses words and variables comes exactly where its cause holds
pub record RefusedWell (asked : Option Command) (vars : Environment) (status : Status) : Type 0 where
  pub usage : EndsExactly status statuses.Usage (HasNoReading asked)
  pub off : EndsExactly status statuses.Off (IsTurnedOff asked vars)
  pub no_root : EndsExactly status statuses.NoRoot (LacksRoot asked vars)
  pub too_many : (n : ℕ) → EndsExactly status (statuses.TooManyReadOnly n) (NamesTooMany asked vars n)
  pub not_built : EndsExactly status statuses.NotBuilt (IsUnbuilt asked vars)
  pub bad_key : EndsExactly status statuses.BadKey (HasBadKey asked vars)

module _ (asked : Option Command) (vars : Environment) (command : Command) (is : asked ≡ Some command) (lies : LiesInFolder command vars) (keys : HasKeys command) where
  pub good_words : (status : Status) → RefusedWell asked vars status → IsRefused status → ⊥
  good_words statuses.Usage r refused = let clash : Some command ≡ None = sym is ∙ r.usage.only refl in cc
  good_words statuses.Off r refused = not_off vars (over_of command) lies.allowed (of_asked asked command (λ c. NeedsSettings c.word × IsOff vars) is (r.off.only refl)).1
  good_words statuses.NoRoot r refused = has_root vars (over_of command) lies.allowed (of_asked asked command (λ c. NeedsSettings c.word × HasNoRoot vars (over_of c)) is (r.no_root.only refl)).1
  good_words (statuses.TooManyReadOnly n) r refused = not_many vars (over_of command) n lies.allowed (of_asked asked command (λ c. NeedsSettings c.word × HasTooMany vars (over_of c) n) is ((r.too_many n).only refl)).1
  good_words statuses.NotBuilt r refused = (of_asked asked command (λ c. IsOperation c.word × LiesElsewhere c vars) is (r.not_built.only refl)).1.layout lies.layout
  good_words statuses.BadKey r refused = (of_asked asked command (λ c. IsOperation c.word × LiesInFolder c vars × (HasKeys c → ⊥)) is (r.bad_key.only refl)).2 keys
  good_words status r refused = refused

-- ---- a get

get_leaves : (word : Word) → word ≡ commands.Get → ReadsSource word → ⊥
get_leaves word get reads = subst ReadsSource get reads

module _ (asked : Option Command) (vars : Environment) (command : Command) (is : asked ≡ Some command) (get : command.word ≡ commands.Get) where
  pub asks_no_source : AsksNoSource asked
  asks_no_source = subst (λ (o : Option Command). IsSomeAnd o (λ c. LeavesSource c.word)) (sym is) (get_leaves command.word get)

  asks_not_to_read : AsksToRead asked → ⊥
  asks_not_to_read reads = get_leaves command.word get (of_asked asked command (λ c. ReadsSource c.word) is reads)

  reads_nothing : {R : Type 0} (status : Status) (left left' : Option (List ℕ)) → (status ≡ statuses.ReadFault → AsksToRead asked × R) → ((count : ℕ) → status ≡ statuses.TooLarge count → RefusesSource asked count left left') → IsUnread status → ⊥
  reads_nothing statuses.ReadFault left left' fault large e = asks_not_to_read (fault refl).0
  reads_nothing (statuses.TooLarge count) left left' fault large e = asks_not_to_read (large count refl).asks
  reads_nothing status left left' fault large e = e

  -- so it is served, unless there is no memory to begin
  pub get_served : {R P Q S : Type 0} (status : Status) (left left' : Option (List ℕ)) → LiesInFolder command vars → HasKeys command → RefusedWell asked vars status → (status ≡ statuses.ReadFault → AsksToRead asked × R) → ((count : ℕ) → status ≡ statuses.TooLarge count → RefusesSource asked count left left')
      → IsRefused status ⊎ IsUnread status ⊎ ((status ≡ statuses.NoMemory) × P × Q) ⊎ S → ((status ≡ statuses.NoMemory) × P × Q) ⊎ S
  get_served status left left' lies keys r fault large (inl refused) = absurd (good_words asked vars command is lies keys status r refused)
  get_served status left left' lies keys r fault large (inr (inl unread)) = absurd (reads_nothing status left left' fault large unread)
  get_served status left left' lies keys r fault large (inr (inr (inl none))) = inl none
  get_served status left left' lies keys r fault large (inr (inr (inr served))) = inr served
