-- What clap reads, as what the arguments ask for.
use Rattle.std.proofs.Common.{◌≡◌, ◌∙◌, subst, ℕ, Bool, List, [], ◌∷◌, Option, Some, None, Bor, true, false, inl, inr, refl, sym, ap, option_map, unwrap_or}
use Rattle.std.specs.Option.{option_map_or}
use Rattle.std.specs.Prelude.{codes, if◌then◌else◌, option_and_then}
use Rattle.std.specs.Str.{bytes_eq}
use Rattle.std.proofs.lemmas.Slice.Eq.{bytes_eq-Decides}
use Rattle.clap.specs.Words.{App, Row, Text, HasMatchesOf, first_of, found_of, matches_of, rows_of, first_value, is_simple, subcommand_name_of, subcommand_rows_of, subcommand_of}
use Rattle.clap.specs.Faults.{fault_of, is_simple_and_free}
use Rattle.clap.specs.Kinds.{Kinds, HasKind, or_else}
use Rattle.clap.specs.Values.{kind_of}
use Rattle.clap.specs.declared.error.kind.ErrorKind.TheVariants as kinds
use Rattle.clap.specs.declared.error.Error.{Error}
use Rattle.clap.specs.declared.parser.matches.ArgMatches.{ArgMatches}
use Rattle.clap.specs.declared.parser.matches.Found.{Found}
use Rattle.std.specs.Box.{box_value}
use Rattle.clap.specs.declared.parser.matches.ArgMatches.TheViews.{out-ArgMatches, out-SubCommand}
use Rattle.clap.proofs.WalkLemmas.{first_value-rows}
use Rattle.zh_arguments.specs.Arguments.{AsksBy, AsksFor, Names, NamesOrVersion, command_in, kind_by, misuse_in, refusals, wants_version}
use Rattle.zh_arguments.specs.Commands.{IsTaskOf, command_named, misuse_of, zhcount}
use Rattle.zh_arguments.specs.Table.{path_in}
use Rattle.zh_arguments.specs.View.{has_flag}
use Rattle.zh_arguments.specs.declared.arguments.Misuse.{Misuse}
use Rattle.zh_arguments.specs.declared.commands.CommandName.{CommandName}
use Rattle.zh_arguments.specs.declared.commands.CommandName.TheVariants as names
use Rattle.zh_arguments.specs.declared.commands.Query.TheVariants as queries
use Rattle.zh_arguments.specs.declared.arguments.Task.{Task}
use Rattle.zh_arguments.specs.declared.arguments.Task.TheVariants as tasks

-- the path that clap found, or else the empty text
pub path_found : (found : Option (Bor (List ℕ))) (none path : Bor (List ℕ)) (f : Found) (name : Text)
    → option_map (λ s. s.now) found ≡ first_value f name → none.now ≡ [] → path ≡ unwrap_or found none → path.now ≡ path_in name (rows_of f)
path_found found none path f name first empty is = at found (first ∙ first_value-rows f name) is
  where
    at : (o : Option (Bor (List ℕ))) → option_map (λ s. s.now) o ≡ first_of name (rows_of f) → path ≡ unwrap_or o none → path.now ≡ path_in name (rows_of f)
    at None given is = ap (λ (b : Bor (List ℕ)). b.now) is ∙ empty ∙ ap (λ (t : Option Text). unwrap_or t []) given
    at (Some found) given is = ap (λ (b : Bor (List ℕ)). b.now) is ∙ ap (λ (t : Option Text). unwrap_or t []) given

pub zhcount_is_simple : is_simple zhcount ≡ true
zhcount_is_simple = refl

pub zhcount_is_free : is_simple_and_free zhcount ≡ true
zhcount_is_free = refl

-- an option of which two parts are known
pub parts : {X A B : Type 0} (f : X → A) (g : X → B) (o : Option X) (q : Option (A × B))
    → option_map f o ≡ option_map (λ (p : A × B). p.0) q → option_map g o ≡ option_map (λ (p : A × B). p.1) q → option_map (λ x. (f x, g x)) o ≡ q
parts f g None None one two = refl
parts f g None (Some q) one two = absurd (cc)
parts f g (Some x) None one two = absurd (cc)
parts f g (Some x) (Some q) one two = let first : f x ≡ q.0 = cc in let second : g x ≡ q.1 = cc in λ i. Some (first i, second i)

pub command_read : (a : App) (arguments : List Text) (m : ArgMatches) → a ≡ zhcount → HasMatchesOf a arguments m → subcommand_rows_of m ≡ command_in arguments
unfolding command_in
command_read a arguments m is has = (has (ap is_simple is ∙ zhcount_is_simple)).1 ∙ ap (λ (app : App). subcommand_of app arguments) is

-- whether the flag of the version was read
pub flag_read : (a : App) (arguments : List Text) (m : ArgMatches) → a ≡ zhcount → HasMatchesOf a arguments m
    → has_flag (codes "version") (rows_of (found_of m)) ≡ wants_version arguments
unfolding wants_version
flag_read a arguments m is has =
    ap (λ (rows : List Row). has_flag (codes "version") rows)
    ((has (ap is_simple is ∙ zhcount_is_simple)).0 ∙ ap (λ (app : App). matches_of app arguments) is)

mapped : {X A B : Type 0} (f : X → A) (g : X → B) (o : Option X) → option_map f o ≡ option_map (λ (p : A × B). p.0) (option_map (λ x. (f x, g x)) o)
mapped f g None = refl
mapped f g (Some x) = refl

-- the name of the command that clap read
pub named : (m : ArgMatches) → subcommand_name_of m ≡ option_map (λ (p : Text × List Row). p.0) (subcommand_rows_of m)
named m = mapped (λ b. (out-SubCommand (box_value b)).name.now) (λ b. rows_of (found_of (out-SubCommand (box_value b)).matches)) (out-ArgMatches m).subcommand

pub equal : (a b : Text) → a ≡ b → bytes_eq a b ≡ true
equal a b same = (bytes_eq-Decides a b).1 same

-- a command that asks for a task is not misused
fits : (name : CommandName) (rows : List Row) (task : Task) → IsTaskOf name rows task → misuse_of name rows ≡ None
fits names.List rows (tasks.List setup table) is = rw is.1 refl
fits names.List rows task is = absurd is
fits names.Status rows (tasks.Show paths (queries.Status view)) is = rw is refl
fits names.Status rows task is = absurd is
fits names.Votes rows (tasks.Show paths (queries.Votes of is_table)) is = rw is.0 refl
fits names.Votes rows task is = absurd is
fits names.Seats rows (tasks.Show paths (queries.Seats is_final layout)) is = rw (is.0, is.1) refl
fits names.Seats rows (tasks.SheetSeats setup sheet layout) is = rw (is.0, is.3) refl
fits names.Seats rows task is = absurd is
fits name rows task is = refl

pub not_misused : (given : Option (Text × List Row)) (task : Task) → Names given task → misuse_in given ≡ None
not_misused None task asks = refl
not_misused (Some given) task asks = at (command_named given.0) asks
  where
    at : (name : Option CommandName) → AsksBy name given.1 task → option_and_then (λ n. misuse_of n given.1) name ≡ None
    at None asks = refl
    at (Some name) asks = fits name given.1 task asks.0

either : (first next : Kinds) (e : Error) → HasKind first e → HasKind (or_else first next) e
either [] next e (inl memory) = inl memory
either [] next e (inr none) = absurd none
either (k ∷ ks) next e has = has

-- the kinds of error for a misused command
abbrev misuse_kinds : Option (Text × List Row) → Kinds
misuse_kinds given = option_map_or (λ misuse. kind_by misuse ∷ []) (misuse_in given) []

-- what clap refuses, and what is refused of what clap accepts
pub refused : (a : App) (arguments : List Text) (e : Error) → a ≡ zhcount → (is_simple_and_free a ≡ true → HasKind (fault_of a arguments) e) → HasKind (refusals arguments) e
unfolding refusals
refused a arguments e is kinds =
    either (fault_of zhcount arguments) (misuse_kinds (command_in arguments)) e (subst (λ (app : App). HasKind (fault_of app arguments) e) is (kinds (ap is_simple_and_free is ∙ zhcount_is_free)))

taken : (a : App) (arguments : List Text) → a ≡ zhcount → (is_simple_and_free a ≡ true → fault_of a arguments ≡ []) → refusals arguments ≡ misuse_kinds (command_in arguments)
unfolding refusals
taken a arguments is kinds =
    let none : fault_of zhcount arguments ≡ [] = ap (λ (app : App). fault_of app arguments) (sym is) ∙ kinds (ap is_simple_and_free is ∙ zhcount_is_free) in
    rw none refl

-- the task of a command, or the version
asks_one : (is_version : Bool) (given : Option (Text × List Row)) (task chosen : Task) → Names given task
    → chosen ≡ (if is_version then tasks.Version else task) → NamesOrVersion is_version given chosen
asks_one true given task chosen asks is = is
asks_one false given task chosen asks is = subst (Names given) (sym is) asks

-- a task was read
pub asked : (a : App) (arguments : List Text) (task chosen : Task) → a ≡ zhcount → (is_simple_and_free a ≡ true → fault_of a arguments ≡ [])
    → Names (command_in arguments) task → chosen ≡ (if wants_version arguments then tasks.Version else task) → AsksFor arguments chosen
asked a arguments task chosen is kinds asks or_version = (
  taken a arguments is kinds ∙ ap (λ (m : Option Misuse). option_map_or (λ misuse. kind_by misuse ∷ []) m []) (not_misused (command_in arguments) task asks),
  asks_one (wants_version arguments) (command_in arguments) task chosen asks or_version,
)

-- a command was misused
pub refused_misuse : (a : App) (arguments : List Text) (e : Error) (misuse : Misuse) → a ≡ zhcount
    → (is_simple_and_free a ≡ true → fault_of a arguments ≡ []) → misuse_in (command_in arguments) ≡ Some misuse → kind_of e ≡ kind_by misuse
    → HasKind (refusals arguments) e
refused_misuse a arguments e misuse is kinds misused kind =
    let all : refusals arguments ≡ kind_by misuse ∷ [] = taken a arguments is kinds ∙ ap (λ (m : Option Misuse). option_map_or (λ misuse. kind_by misuse ∷ []) m []) misused in
    subst (λ (ks : Kinds). HasKind ks e) (sym all) (inr (inl kind))

-- refused memory is a possible error for any arguments
pub out_of_memory : (arguments : List Text) (e : Error) → kind_of e ≡ kinds.OutOfMemory → HasKind (refusals arguments) e
out_of_memory arguments e memory = inl memory
