mod Records
mod CredentialLines
