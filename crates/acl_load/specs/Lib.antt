pub mod FaultLineSteps
pub mod FaultLines
pub mod LoadFaults
pub mod LoadedPolicies
pub mod Loading
pub mod ResolvedPolicies
