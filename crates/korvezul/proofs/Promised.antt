-- The thirteen exported functions of a table, each with its own `ensures` as its contract has it (`tick.clauses`, ..), and what a call of it is as a call on the table:
-- of its arguments a, its result r, and its arguments e at exit.
-- Assumes nothing.
use Prim.Native.Nat.{ℕ}
use mathlib.Core.Path.{◌≡◌, sym, ap, ◌∙◌}
use mathlib.Core.List.{List, [], ◌∷◌, map}
use seplogic.Ra.Ura.{Ura}
use base.Logic.{SProp, ent, emp, sep}
use prog.Memory.{Memory}
use prog.Routine.{Routine}
use types.Logic.{Logic}
use contract.Monad.{Fun, fact, fact_mono}
use contract.Lifetimes.{Lfts}
use denote.Triple.Entry.{Args, Res}
use denote.Triple.Clauses.{Ended, AtExit, Clauses}
use Rattle.rules.specs.declared.Circuit.{Circuit}
use Rattle.rules.specs.Parties.{own_label}
use Rattle.rules.specs.Calls.{Act, Close, Lock, Unlock, ReportOn, WriteCc, WriteCv, Said, number_only, writes}
use Rattle.rules.proofs.Bools.{split}
use Rattle.session.specs.declared.Session.{Session}
use Rattle.table.specs.declared.Head.{Head}
use Rattle.table.specs.Table.{Table}
use Rattle.grouping.specs.Commands.{is_dhc, received_on, silent}
use Rattle.grouping.specs.Grouped.{answer_to}
use Rattle.grouping.specs.Asking.{Told}
use Rattle.grouping.proofs.Apart.{ordinary-next}
use Rattle.step.specs.Stepping.{table_of}
use Rattle.meaning.specs.Parties.{Named, TickTo, OpenFor, OnFor, taken}
use Rattle.group_parties.specs.Parties.{NamedCommand, CallFor, SetGroupFor, SetAcFor, ReturnGroupFor, command_of, Gives, Asks, Says, Tells}
use Rattle.korvezul.specs.Calling.{Called, called, said_in}
use Rattle.korvezul.specs.Commanding.{commanded, told_in, asked_on}
use Rattle.korvezul.specs.Runs.{PublicCall, answered, Promise, received_for}
use Rattle.korvezul.specs.contracts.korvezul_tick as tick
use Rattle.korvezul.specs.contracts.korvezul_open as «open»
use Rattle.korvezul.specs.contracts.korvezul_close as close
use Rattle.korvezul.specs.contracts.korvezul_lock as lock
use Rattle.korvezul.specs.contracts.korvezul_unlock as unlock
use Rattle.korvezul.specs.contracts.korvezul_receive as receive
use Rattle.korvezul.specs.contracts.korvezul_report as report
use Rattle.korvezul.specs.contracts.korvezul_write_cc as write-cc
use Rattle.korvezul.specs.contracts.korvezul_write_cv as write-cv
use Rattle.korvezul.specs.contracts.groups.korvezul_set_group as set-group
use Rattle.korvezul.specs.contracts.groups.korvezul_set_ac as set-ac
use Rattle.korvezul.specs.contracts.groups.korvezul_return_group as return-group
use Rattle.korvezul.specs.contracts.groups.korvezul_ask_group as ask-group

-- which function
pub data Exported : Type 0 where
  Ticks : Exported
  Opens : Exported
  Closes : Exported
  Locks : Exported
  Unlocks : Exported
  Receives : Exported
  Reports : Exported
  WritesCc : Exported
  WritesCv : Exported
  SetsGroup : Exported
  SetsAc : Exported
  ReturnsGroup : Exported
  AsksGroup : Exported

-- what is asked of a circuit
abbrev on_circuit : Circuit → Act → Named
on_circuit c x = OnFor c.party c.label x

-- row and head at entry, row and head at exit, the command, and what it said
abbrev on : List Session → Head → List Session → Head → NamedCommand → Said → PublicCall
on row head row' head' c said = record { lent = table_of row head; request = Gives c; response = Says said; left = table_of row' head' }

-- the same where only a number is said: of a call as ever, and of a command on groups or a message
abbrev answering : List Session → Head → List Session → Head → Named → ℕ → PublicCall
answering row head row' head' c n = on row head row' head' (CallFor c) (number_only (taken c) n)

abbrev obeying : List Session → Head → List Session → Head → NamedCommand → ℕ → PublicCall
obeying row head row' head' c n = on row head row' head' c (silent n)

-- and of asking, with the party and the ID, what was told
abbrev telling : List Session → Head → List Session → Head → ℕ → ℕ → Told → PublicCall
telling row head row' head' p id told = record { lent = table_of row head; request = Asks p id; response = Tells told; left = table_of row' head' }

-- what a contract ensures is the promise of the call, t the table that was lent and v the one that was left

-- a call as ever is a command that says and leaves what the call does
pub ordinary-promise : (t v : Table) (c : Named) (s : Said) → record { said = s; table = v } ≡ called t (taken c)
    → record { response = Says s; table = v } ≡ answered t (Gives (CallFor c))
unfolding answer_to
ordinary-promise t v c s e =
    let left = ap (λ (x : Called). x.table) e ∙ sym (ordinary-next t (taken c)) in λ i. record { response = Says (e i).said; table = left i }

pub command-promise : (t v : Table) (c : NamedCommand) (s : Said) → record { said = s; table = v } ≡ commanded t (command_of c)
    → record { response = Says s; table = v } ≡ answered t (Gives c)
command-promise t v c s e = λ i. record { response = Says (e i).said; table = (e i).table }

-- a message that is received on a label is taken on what the label is to the party
received-same : (p l : ℕ) (m : List ℕ) (u : ℕ) → command_of (received_for p l m u) ≡ received_on (own_label p l) m u
received-same p l m u = split (is_dhc m) (λ b. rw b) (λ b. rw b)

pub receive-promise : (t v : Table) (p l : ℕ) (m : List ℕ) (u : ℕ) (s : Said) → record { said = s; table = v } ≡ commanded t (received_on (own_label p l) m u)
    → record { response = Says s; table = v } ≡ answered t (Gives (received_for p l m u))
receive-promise t v p l m u s e = command-promise t v (received_for p l m u) s (e ∙ ap (commanded t) (sym (received-same p l m u)))

pub ask-promise : (t v : Table) (p id : ℕ) (x : Told) → record { told = x; table = v } ≡ asked_on t p id
    → record { response = Tells x; table = v } ≡ answered t (Asks p id)
ask-promise t v p id x e = λ i. record { response = Tells (e i).told; table = (e i).table }

module _ {M : Type 1} {𝓤 : Ura M} (𝓛 : Logic 𝓤) (mem : Memory → SProp 𝓤) (run : Routine → Fun 𝓤) where
  -- an exported function: its signature and its contract, and each call of it as a call on the table; what it ensures is that call's promise
  pub record Contracted : Type 2 where
    pub signed : Ended
    pub clauses : Clauses 𝓤 signed
    pub call : (κs : Lfts signed.signature.lifetimes) → Args signed.signature κs → Res signed.signature κs → AtExit signed κs → PublicCall
    pub keeps : (κs : Lfts signed.signature.lifetimes) (a : Args signed.signature κs) (g : (clauses κs a).ghost) (r : Res signed.signature κs) (e : AtExit signed κs)
        → ent 𝓤 ((clauses κs a).ensures g r e) (fact 𝓤 (Promise (call κs a r e)))

  abbrev pub function_of : Exported → Contracted
  function_of Ticks = record {
    signed = tick.ended;
    clauses = tick.clauses 𝓛 mem run;
    call = λ κs a r e. answering a.0.now a.1.0.now e.0.now e.1.0.now (TickTo a.1.1.0) r;
    keeps = λ κs a g r e. fact_mono 𝓤 _ _ (ordinary-promise _ _ (TickTo a.1.1.0) _);
  }
  function_of Opens = record {
    signed = «open».ended;
    clauses = «open».clauses 𝓛 mem run;
    call = λ κs a r e. answering a.0.now a.1.0.now e.0.now e.1.0.now (OpenFor a.1.1.0.party a.1.1.0.settings a.1.1.1.0) r;
    keeps = λ κs a g r e. fact_mono 𝓤 _ _ (ordinary-promise _ _ (OpenFor a.1.1.0.party a.1.1.0.settings a.1.1.1.0) _);
  }
  function_of Closes = record {
    signed = close.ended;
    clauses = close.clauses 𝓛 mem run;
    call = λ κs a r e. answering a.0.now a.1.0.now e.0.now e.1.0.now (on_circuit a.1.1.0 (Close a.1.1.1.0)) r;
    keeps = λ κs a g r e. fact_mono 𝓤 _ _ (ordinary-promise _ _ (on_circuit a.1.1.0 (Close a.1.1.1.0)) _);
  }
  function_of Locks = record {
    signed = lock.ended;
    clauses = lock.clauses 𝓛 mem run;
    call = λ κs a r e. answering a.0.now a.1.0.now e.0.now e.1.0.now (on_circuit a.1.1.0 (Lock a.1.1.1.0)) r;
    keeps = λ κs a g r e. fact_mono 𝓤 _ _ (ordinary-promise _ _ (on_circuit a.1.1.0 (Lock a.1.1.1.0)) _);
  }
  function_of Unlocks = record {
    signed = unlock.ended;
    clauses = unlock.clauses 𝓛 mem run;
    call = λ κs a r e. answering a.0.now a.1.0.now e.0.now e.1.0.now (on_circuit a.1.1.0 (Unlock a.1.1.1.0)) r;
    keeps = λ κs a g r e. fact_mono 𝓤 _ _ (ordinary-promise _ _ (on_circuit a.1.1.0 (Unlock a.1.1.1.0)) _);
  }
  function_of Receives = record {
    signed = receive.ended;
    clauses = receive.clauses 𝓛 mem run;
    call = λ κs a r e. obeying a.0.now a.1.0.now e.0.now e.1.0.now (received_for a.1.1.0.party a.1.1.0.label a.1.1.1.0.now a.1.1.1.1.0) r;
    keeps = λ κs a g r e. fact_mono 𝓤 _ _ (receive-promise _ _ _ _ _ _ _);
  }
  function_of Reports = record {
    signed = report.ended;
    clauses = report.clauses 𝓛 mem run;
    call = λ κs a r e. on a.0.now a.1.0.now e.0.now e.1.0.now (CallFor (on_circuit a.1.1.0 ReportOn)) (said_in r);
    keeps = λ κs a g r e. fact_mono 𝓤 _ _ (ordinary-promise _ _ (on_circuit a.1.1.0 ReportOn) _);
  }
  function_of WritesCc = record {
    signed = write-cc.ended;
    clauses = write-cc.clauses 𝓛 mem run;
    call = λ κs a r e. on a.0.now a.1.0.now e.0.now e.1.0.now (CallFor (on_circuit a.1.1.0 (WriteCc a.1.1.1.0.now))) (writes (record { answer = r; buffer = e.1.1.1.0.now }));
    keeps = λ κs a g r e. fact_mono 𝓤 _ _ (ordinary-promise _ _ (on_circuit a.1.1.0 (WriteCc a.1.1.1.0.now)) _);
  }
  function_of WritesCv = record {
    signed = write-cv.ended;
    clauses = write-cv.clauses 𝓛 mem run;
    call = λ κs a r e. on a.0.now a.1.0.now e.0.now e.1.0.now (CallFor (on_circuit a.1.1.0 (WriteCv a.1.1.1.0.now))) (writes (record { answer = r; buffer = e.1.1.1.0.now }));
    keeps = λ κs a g r e. fact_mono 𝓤 _ _ (ordinary-promise _ _ (on_circuit a.1.1.0 (WriteCv a.1.1.1.0.now)) _);
  }
  function_of SetsGroup = record {
    signed = set-group.ended;
    clauses = set-group.clauses 𝓛 mem run;
    call = λ κs a r e. obeying a.0.now a.1.0.now e.0.now e.1.0.now (SetGroupFor a.1.1.0.party a.1.1.0.settings a.1.1.1.0) r;
    keeps = λ κs a g r e. fact_mono 𝓤 _ _ (command-promise _ _ (SetGroupFor a.1.1.0.party a.1.1.0.settings a.1.1.1.0) _);
  }
  function_of SetsAc = record {
    signed = set-ac.ended;
    clauses = set-ac.clauses 𝓛 mem run;
    call = λ κs a r e. obeying a.0.now a.1.0.now e.0.now e.1.0.now (SetAcFor a.1.1.0.group.party a.1.1.0.group.id a.1.1.0.ac a.1.1.1.0) r;
    keeps = λ κs a g r e. fact_mono 𝓤 _ _ (command-promise _ _ (SetAcFor a.1.1.0.group.party a.1.1.0.group.id a.1.1.0.ac a.1.1.1.0) _);
  }
  function_of ReturnsGroup = record {
    signed = return-group.ended;
    clauses = return-group.clauses 𝓛 mem run;
    call = λ κs a r e. obeying a.0.now a.1.0.now e.0.now e.1.0.now (ReturnGroupFor a.1.1.0.party a.1.1.0.id a.1.1.1.0) r;
    keeps = λ κs a g r e. fact_mono 𝓤 _ _ (command-promise _ _ (ReturnGroupFor a.1.1.0.party a.1.1.0.id a.1.1.1.0) _);
  }
  function_of AsksGroup = record {
    signed = ask-group.ended;
    clauses = ask-group.clauses 𝓛 mem run;
    call = λ κs a r e. telling a.0.now a.1.0.now e.0.now e.1.0.now a.1.1.0.party a.1.1.0.id (told_in r);
    keeps = λ κs a g r e. fact_mono 𝓤 _ _ (ask-promise _ _ _ _ _);
  }

  -- a call of one of them, as it was made
  pub record Exchange : Type 0 where
    pub name : Exported
    pub lifetimes : Lfts (function_of name).signed.signature.lifetimes
    pub entry : Args (function_of name).signed.signature lifetimes
    pub ghost : ((function_of name).clauses lifetimes entry).ghost
    pub result : Res (function_of name).signed.signature lifetimes
    pub exit : AtExit (function_of name).signed lifetimes

  -- the function's own `ensures`, of this call
  abbrev pub ensured : Exchange → SProp 𝓤
  ensured x = ((function_of x.name).clauses x.lifetimes x.entry).ensures x.ghost x.result x.exit

  abbrev pub call_of : Exchange → PublicCall
  call_of x = (function_of x.name).call x.lifetimes x.entry x.result x.exit

  -- every call of a run ensured what its function promises
  abbrev pub all_ensured : List Exchange → SProp 𝓤
  all_ensured [] = emp 𝓤
  all_ensured (x ∷ xs) = sep 𝓤 (ensured x) (all_ensured xs)

  abbrev pub table_calls : List Exchange → List PublicCall
  table_calls xs = map call_of xs
