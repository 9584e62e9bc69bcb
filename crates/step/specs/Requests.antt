-- The calls that bring numbers alone, by value: a buffer is its length. What each looks for in the row.
-- Assumes nothing.
use Rattle.std.specs.Prelude.{ℕ, Bool, true, false, length}
use Rattle.rules.specs.Calls as C
use Rattle.scan.specs.declared.Target.{Target}
use Rattle.step.specs.declared.Request.{Request}
use Rattle.step.specs.declared.Request.TheVariants.{Tick, Close, Lock, Unlock, ReportOn, WriteCc, WriteCv}

-- an open brings settings and a received message its octets: these two go by themselves
abbrev pub is_request : C.Call → Bool
is_request (C.Tick u) = true
is_request (C.Open g u) = false
is_request (C.On l (C.Close u)) = true
is_request (C.On l (C.Lock u)) = true
is_request (C.On l (C.Unlock u)) = true
is_request (C.On l (C.Receive m u)) = false
is_request (C.On l C.ReportOn) = true
is_request (C.On l (C.WriteCc b)) = true
is_request (C.On l (C.WriteCv b)) = true

-- the request of each; nothing is asked of the two others
abbrev pub request_on : ℕ → C.Act → Request
request_on l (C.Close u) = Close l u
request_on l (C.Lock u) = Lock l u
request_on l (C.Unlock u) = Unlock l u
request_on l (C.Receive m u) = ReportOn l
request_on l C.ReportOn = ReportOn l
request_on l (C.WriteCc b) = WriteCc l (length b)
request_on l (C.WriteCv b) = WriteCv l (length b)

abbrev pub request_of : C.Call → Request
request_of (C.Tick u) = Tick u
request_of (C.Open g u) = Tick u
request_of (C.On l a) = request_on l a

abbrev pub aimed_at : ℕ → Target
aimed_at l = record { label = l; discriminator = 0 }

-- a tick looks for nothing, the others for their label
abbrev pub target_of : Request → Target
target_of (Tick u) = aimed_at 0
target_of (Close l u) = aimed_at l
target_of (Lock l u) = aimed_at l
target_of (Unlock l u) = aimed_at l
target_of (ReportOn l) = aimed_at l
target_of (WriteCc l n) = aimed_at l
target_of (WriteCv l n) = aimed_at l
