-- No call failed but those that an ending tells of.
use Rattle.std.proofs.Common.{◌≡◌, ◌≢◌, ℕ, inl, inr, false, List, Err, refl, ap, sym, subst, ◌∙◌}
use Rattle.acl_load.specs.LoadFaults.{fails_to_list, fails_to_read}
use Rattle.acl_load.specs.declared.load_faults.LoadFault.{LoadFault}
use Rattle.acl_load.specs.declared.load_faults.LoadFault.TheVariants as loads
use Rattle.acl_run.specs.Failures.{FailedAlone, NoneFailed, faults_at}
use Rattle.acl_run.specs.Telling.{Reports, RefusesSo}
use Rattle.acl_run.specs.Deciding.{FollowsFrom, LooksAlone}
use Rattle.acl_run.specs.Worlds.{Disk, Stream, Watch, World, world}
use Rattle.acl_run.specs.declared.deciding.Decision.{Decision}
use Rattle.acl_run.specs.declared.deciding.Decision.TheVariants as decided
use Rattle.acl_run.specs.declared.endings.Ended.{Ended}
use Rattle.acl_run.specs.declared.endings.Ended.TheVariants as ended
use Rattle.acl_run.specs.declared.endings.Which.{Which}
use Rattle.acl_run.specs.declared.endings.Which.TheVariants as which

-- What is so of each kind of call.
pub by-kind : (P : Which → Type 0) → P which.List → P which.Read → P which.Write → P which.Out → P which.Err → P which.Clock → (v : Which) → P v
by-kind P l r w o e c which.List = l
by-kind P l r w o e c which.Read = r
by-kind P l r w o e c which.Write = w
by-kind P l r w o e c which.Out = o
by-kind P l r w o e c which.Err = e
by-kind P l r w o e c which.Clock = c

pub none-failed : (d d' : Disk) (o o' e e' : Stream) (c c' : Watch) → d'.list_faults ≡ d.list_faults → d'.read_faults ≡ d.read_faults → d'.write_faults ≡ d.write_faults
    → o'.faults ≡ o.faults → e'.faults ≡ e.faults → c'.faults ≡ c.faults → NoneFailed (world d o e c) (world d' o' e' c')
none-failed d d' o o' e e' c c' = by-kind (λ v. faults_at v (world d' o' e' c') ≡ faults_at v (world d o e c))

-- A line was tried on standard error.
line-tried : (d : Disk) (o e e' : Stream) (c : Watch) → (v : Which) → v ≢ which.Err → faults_at v (world d o e' c) ≡ faults_at v (world d o e c)
line-tried d o e e' c = by-kind (λ v. v ≢ which.Err → faults_at v (world d o e' c) ≡ faults_at v (world d o e c))
    (λ _. refl) (λ _. refl) (λ _. refl) (λ _. refl) (λ n. absurd (n refl)) (λ _. refl)

-- What failed behind calls of which none failed.
pub alone-behind : (result : Ended) (first middle last : World) → NoneFailed first middle → FailedAlone result middle last → FailedAlone result first last
alone-behind ended.Done first middle last none alone = λ v. alone v ∙ none v
alone-behind ended.Usage first middle last none alone = λ v. alone v ∙ none v
alone-behind (ended.Rejected fault) first middle last none alone = λ v. alone v ∙ none v
alone-behind (ended.Outside w) first middle last none alone = λ v other silent. alone v other silent ∙ none v
alone-behind ended.Memory first middle last none alone = λ v. alone v ∙ none v

-- ---- deciding

pub planned-alone : {W : Type 0} (work : W) (d d' : Disk) (c c' : Watch) → d'.list_faults ≡ d.list_faults → d'.read_faults ≡ d.read_faults → d'.write_faults ≡ d.write_faults
    → c'.faults ≡ c.faults → LooksAlone (decided.Planned work) d d' c c'
planned-alone work d d' c c' l r w k = λ o e. none-failed d d' o o e e c c' l r w refl refl k

list-alone : (W : Type 0) (d d' : Disk) (c c' : Watch) → d'.read_faults ≡ d.read_faults → d'.write_faults ≡ d.write_faults → c'.faults ≡ c.faults
    → LooksAlone {W = W} (decided.Outside which.List) d d' c c'
list-alone W d d' c c' r w k = λ o e. by-kind (λ v. v ≢ which.List → v ≢ which.Err → faults_at v (world d' o e c') ≡ faults_at v (world d o e c))
    (λ n _. absurd (n refl)) (λ _ _. r) (λ _ _. w) (λ _ _. refl) (λ _ _. refl) (λ _ _. k)

read-alone : (W : Type 0) (d d' : Disk) (c c' : Watch) → d'.list_faults ≡ d.list_faults → d'.write_faults ≡ d.write_faults → c'.faults ≡ c.faults
    → LooksAlone {W = W} (decided.Outside which.Read) d d' c c'
read-alone W d d' c c' l w k = λ o e. by-kind (λ v. v ≢ which.Read → v ≢ which.Err → faults_at v (world d' o e c') ≡ faults_at v (world d o e c))
    (λ _ _. l) (λ n _. absurd (n refl)) (λ _ _. w) (λ _ _. refl) (λ _ _. refl) (λ _ _. k)

pub fault-alone : {W : Type 0} (d d' : Disk) (c c' : Watch) (e : LoadFault) (decision : Decision W)
    → (fails_to_list {X = W} (Err e) ≡ false → d'.list_faults ≡ d.list_faults) → (fails_to_read {X = W} (Err e) ≡ false → d'.read_faults ≡ d.read_faults)
    → d'.write_faults ≡ d.write_faults → c'.faults ≡ c.faults → FollowsFrom e decision → LooksAlone decision d d' c c'
fault-alone d d' c c' (loads.Fault fault) (decided.Refused told line) l r w k h = λ o e. none-failed d d' o o e e c c' (l refl) (r refl) w refl refl k
fault-alone d d' c c' (loads.Fault fault) decided.Memory l r w k h = λ o e. none-failed d d' o o e e c c' (l refl) (r refl) w refl refl k
fault-alone d d' c c' (loads.Fault fault) decided.Usage l r w k h = absurd h
fault-alone d d' c c' (loads.Fault fault) (decided.Planned work) l r w k h = absurd h
fault-alone d d' c c' (loads.Fault fault) (decided.Outside v) l r w k h = absurd h
fault-alone {W = W} d d' c c' loads.List (decided.Outside v) l r w k h =
    subst (λ x. LooksAlone {W = W} (decided.Outside x) d d' c c') (sym h) (list-alone W d d' c c' (r refl) w k)
fault-alone d d' c c' loads.List decided.Memory l r w k h = absurd h
fault-alone d d' c c' loads.List decided.Usage l r w k h = absurd h
fault-alone d d' c c' loads.List (decided.Planned work) l r w k h = absurd h
fault-alone d d' c c' loads.List (decided.Refused told line) l r w k h = absurd h
fault-alone {W = W} d d' c c' loads.Read (decided.Outside v) l r w k h =
    subst (λ x. LooksAlone {W = W} (decided.Outside x) d d' c c') (sym h) (read-alone W d d' c c' (l refl) w k)
fault-alone d d' c c' loads.Read decided.Memory l r w k h = absurd h
fault-alone d d' c c' loads.Read decided.Usage l r w k h = absurd h
fault-alone d d' c c' loads.Read (decided.Planned work) l r w k h = absurd h
fault-alone d d' c c' loads.Read (decided.Refused told line) l r w k h = absurd h
fault-alone d d' c c' loads.Memory decided.Memory l r w k h = λ o e. none-failed d d' o o e e c c' (l refl) (r refl) w refl refl k
fault-alone d d' c c' loads.Memory decided.Usage l r w k h = absurd h
fault-alone d d' c c' loads.Memory (decided.Planned work) l r w k h = absurd h
fault-alone d d' c c' loads.Memory (decided.Refused told line) l r w k h = absurd h
fault-alone d d' c c' loads.Memory (decided.Outside v) l r w k h = absurd h

-- ---- telling

pub refused-alone : (line : List ℕ) (asked result : Ended) (d : Disk) (o e e' : Stream) (c : Watch)
    → (NoneFailed (world d o e c) (world d o e' c) → FailedAlone asked (world d o e c) (world d o e' c))
    → RefusesSo line asked e e' result → FailedAlone result (world d o e c) (world d o e' c)
refused-alone line asked result d o e e' c f (inl h) =
    subst (λ (r : Ended). FailedAlone r (world d o e c) (world d o e' c)) (sym h.0) (f (none-failed d d o o e e' c c refl refl refl refl h.2 refl))
refused-alone line asked result d o e e' c f (inr (inl h)) =
    subst (λ (r : Ended). FailedAlone r (world d o e c) (world d o e' c)) (sym h.0) (λ v _ silent. line-tried d o e e' c v silent)
refused-alone line asked result d o e e' c f (inr (inr h)) =
    subst (λ (r : Ended). FailedAlone r (world d o e c) (world d o e' c)) (sym h.0) (none-failed d d o o e e' c c refl refl refl refl h.3 refl)

pub told-alone : (w : Which) (result : Ended) (d d' : Disk) (o e e' : Stream) (c c' : Watch)
    → FailedAlone (ended.Outside w) (world d o e c) (world d' o e c') → result ≡ ended.Outside w → FailedAlone result (world d o e c) (world d' o e' c')
told-alone w result d d' o e e' c c' alone is =
    subst (λ (r : Ended). FailedAlone r (world d o e c) (world d' o e' c')) (sym is)
    (λ v other silent. line-tried d' o e e' c' v silent ∙ alone v other silent)

pub reported-alone : (line text : List ℕ) (d d' : Disk) (o o' e e' : Stream) (result : Ended) → d'.list_faults ≡ d.list_faults → d'.read_faults ≡ d.read_faults
    → d'.write_faults ≡ d.write_faults → Reports line text o o' e e' result → (c : Watch) → FailedAlone result (world d o e c) (world d' o' e' c)
reported-alone line text d d' o o' e e' ended.Done l r w h = λ c. none-failed d d' o o' e e' c c l r w h.1 (ap (λ (s : Stream). s.faults) h.2) refl
reported-alone line text d d' o o' e e' ended.Usage l r w h = absurd h
reported-alone line text d d' o o' e e' (ended.Rejected fault) l r w h = absurd h
reported-alone line text d d' o o' e e' (ended.Outside which.List) l r w h = absurd h
reported-alone line text d d' o o' e e' (ended.Outside which.Read) l r w h = absurd h
reported-alone line text d d' o o' e e' (ended.Outside which.Write) l r w h = absurd h
reported-alone line text d d' o o' e e' (ended.Outside which.Out) l r w h =
    λ c. by-kind (λ v. v ≢ which.Out → v ≢ which.Err → faults_at v (world d' o' e' c) ≡ faults_at v (world d o e c))
    (λ _ _. l) (λ _ _. r) (λ _ _. w) (λ n _. absurd (n refl)) (λ _ n. absurd (n refl)) (λ _ _. refl)
reported-alone line text d d' o o' e e' (ended.Outside which.Err) l r w h = absurd h
reported-alone line text d d' o o' e e' (ended.Outside which.Clock) l r w h = absurd h
reported-alone line text d d' o o' e e' ended.Memory l r w h = λ c. none-failed d d' o o' e e' c c l r w h.2 (ap (λ (s : Stream). s.faults) h.3) refl
